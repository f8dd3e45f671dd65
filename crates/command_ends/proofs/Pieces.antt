-- Texts put piece by piece.
use Rattle.std.proofs.Common.{◌≡◌, ℕ, ◌+◌, ◌≤◌, ◌<◌, ◌==◌, false, List, [], ◌∷◌, ◌++◌, Option, None, Some, Result, Ok}
use Rattle.std.proofs.Common.{Err, take, length, min, refl, sym, ◌∙◌, ap, subst, arith, append_assoc}
use Rattle.outside.specs.Piece.{with_piece, PutGives, PutCounts}
use Rattle.outside.specs.declared.sinks.PutAnswer.{PutAnswer}
use Rattle.outside.specs.declared.sinks.PutAnswer.TheVariants as answer
use Rattle.command_ends.specs.Output.{PutsBeginning}
use Rattle.std.proofs.lemmas.List.{append-nil, take-append-le, take_min}
use Rattle.std.proofs.Math.Seq.{take-append-add, take-length}

pub with_piece-none : (before : Option (List ℕ)) → before ≡ with_piece before []
with_piece-none None = refl
with_piece-none (Some bytes) = ap Some (sym (append-nil bytes))

pub with_piece-more : (before : Option (List ℕ)) (done more : List ℕ) →
    with_piece (with_piece before done) more ≡ with_piece before (done ++ more)
with_piece-more None done more = refl
with_piece-more (Some bytes) done more = ap Some (append_assoc bytes done more)

-- a beginning of a piece put after what was put is a beginning of the whole
pub beginning-after : (before middle after : Option (List ℕ)) (done piece rest text : List ℕ) (count : ℕ) →
    middle ≡ with_piece before done → text ≡ done ++ (piece ++ rest) → after ≡ with_piece middle (take count piece) →
    PutsBeginning before text after
beginning-after before middle after done piece rest text count put whole last =
    let small : min count (length piece) ≤ length piece = omega arith in
    let same : take (length done + min count (length piece)) text ≡ done ++ take count piece =
    ap (take (length done + min count (length piece))) whole
    ∙ take-append-add done (piece ++ rest) (min count (length piece))
    ∙ ap (λ xs. done ++ xs) (take-append-le (min count (length piece)) piece rest small ∙ take_min count piece) in (
      length done + min count (length piece),
      last ∙ ap (λ told. with_piece told (take count piece)) put ∙ with_piece-more before done (take count piece)
          ∙ ap (with_piece before) (sym same),
    )

-- what an answer other than Ok leaves is a beginning of the whole
pub refused-after : (before middle after : Option (List ℕ)) (done piece rest text : List ℕ) (why : PutAnswer) →
    middle ≡ with_piece before done → text ≡ done ++ (piece ++ rest) → PutGives middle piece (Err why) after →
    PutsBeginning before text after
refused-after before middle after done piece rest text answer.Failed put whole last =
    beginning-after before middle after done piece rest text last.0 put whole last.1
refused-after before middle after done piece rest text answer.Want put whole last =
    beginning-after before middle after done piece rest text 0 put whole (last ∙ with_piece-none middle)

-- whatever a put answers, a beginning of the piece was put
pub any-beginning : (before after : Option (List ℕ)) (piece : List ℕ) (result : Result (Unit {0}) PutAnswer) →
    PutGives before piece result after → PutsBeginning before piece after
any-beginning before after piece (Ok done) put = (length piece, put ∙ ap (with_piece before) (sym (take-length piece)))
any-beginning before after piece (Err answer.Failed) put = put
any-beginning before after piece (Err answer.Want) put = (0, put ∙ with_piece-none before)

-- the count is the same from before, where none rose until then
pub counts-after : (before middle after : ℕ) (why : PutAnswer) → middle ≡ before → PutCounts (Err why) middle after →
    PutCounts (Err why) before after
counts-after before middle after why same put = subst (λ count. PutCounts (Err why) count after) same put

pub is_some-more : (text : List ℕ) → false ≡ (length text == 0) → 0 < length text
is_some-more [] some = cc
is_some-more (byte ∷ bytes) some = omega arith
