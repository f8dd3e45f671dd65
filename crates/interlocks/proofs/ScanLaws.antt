-- What is still to be read, from a state and the bytes of the present token on, stays the same reading of the
-- whole text from byte to byte: a byte goes on with the token, or the token is taken and another begins.
use Rattle.std.proofs.Common.{◌≡◌, ◌≢◌, ◌≤◌, ◌<◌, ◌+◌, ◌-◌, ℕ, suc, true, false, List, [], ◌∷◌, ◌++◌, length, take}
use Rattle.std.proofs.Common.{drop, get_or, Result, Ok, Err, refl, sym, ◌∙◌, ap, arith, add-one}
use Rattle.std.proofs.Math.Seq.{take-suc, drop-cons, drop-length}
use Rattle.std.proofs.lemmas.List.{get_or-drop, length-drop}
use Rattle.std.proofs.lemmas.Grind.{common_steps}
use Rattle.interlocks.specs.declared.reader.State.{State}
use Rattle.interlocks.specs.declared.refusal.RuleRefusal.{RuleRefusal}
use Rattle.interlocks.specs.declared.refusal.RuleRefusal.TheVariants.{BadRule, NoName, Want}
use Rattle.interlocks.specs.Answers.{Answers, Refuses}
use Rattle.interlocks.specs.Formula.{Formula}
use Rattle.interlocks.specs.Tokens.{Piece, pieces_on, piece_before, begun, continues}
use Rattle.interlocks.specs.Reading.{Names, run, go_on, taken_before, here, read_rule, ended, start}

-- the bytes from a start to a place
abbrev part_of : List ℕ → ℕ → ℕ → List ℕ
part_of text from place = take (place - from) (drop from text)

-- one byte more
part_of-more : (text : List ℕ) (from place : ℕ) → from ≤ place → place < length text →
    part_of text from (place + 1) ≡ part_of text from place ++ get_or text place 0 ∷ []
part_of-more text from place order within =
    let count : (place + 1) - from ≡ suc (place - from) = omega arith in
    let room : place - from < length (drop from text) = rw length-drop (omega arith) in
    let at : from + (place - from) ≡ place = omega arith in
    ap (λ (n : ℕ). take n (drop from text)) count
    ∙ (take-suc (drop from text) (place - from) 0 room
    ∙ ap (λ (b : ℕ). part_of text from place ++ b ∷ []) (get_or-drop from text (place - from) 0
    ∙ ap (λ (n : ℕ). get_or text n 0) at))

-- the rest begins with the byte at its place
rest_at : (text : List ℕ) (place : ℕ) → place < length text →
    drop place text ≡ get_or text place 0 ∷ drop (place + 1) text
rest_at text place within = drop-cons text place 0 within
    ∙ ap (λ (n : ℕ). get_or text place 0 ∷ drop n text) (sym (add-one place))

on_step : (t : List ℕ) (place b : ℕ) (bs : List ℕ) → continues t b ≡ true →
    pieces_on t place (b ∷ bs) ≡ pieces_on (t ++ b ∷ []) (place + 1) bs
on_step t place b bs h = rw (add-one place) (rw h refl)

new_step : (t : List ℕ) (place b : ℕ) (bs : List ℕ) → continues t b ≡ false →
    pieces_on t place (b ∷ bs) ≡ piece_before t place (pieces_on (begun b) (place + 1) bs)
new_step t place b bs h = rw (add-one place) (rw h refl)

-- a token that ends before a place is taken first
run-before : (names : Names) (len : ℕ) (s : State) (t : List ℕ) (end : ℕ) (rest : List Piece) →
    run names len s (piece_before t end rest) ≡ go_on (taken_before names s t end) (λ s'. run names len s' rest)
run-before names len s [] end rest = refl
run-before names len s (c ∷ cs) end rest = refl

-- a byte that goes on with the token changes nothing
pub here-on : (names : Names) (text : List ℕ) (s : State) (from place : ℕ) → from ≤ place → place < length text →
    continues (part_of text from place) (get_or text place 0) ≡ true
    → here names text s from (place + 1) ≡ here names text s from place
unfolding here
here-on names text s from place order within goes =
    ap (run names (length text) s)
    (sym (ap (pieces_on (part_of text from place) place) (rest_at text place within)
    ∙ (on_step (part_of text from place) place (get_or text place 0) (drop (place + 1) text) goes
    ∙ ap (λ (t : List ℕ). pieces_on t (place + 1) (drop (place + 1) text))
    (sym (part_of-more text from place order within)))))

-- a byte that does not go on: the token before it is taken
here-taken : (names : Names) (text : List ℕ) (s : State) (from place : ℕ) (x : Result State RuleRefusal) →
    place < length text → continues (part_of text from place) (get_or text place 0) ≡ false
    → taken_before names s (part_of text from place) place ≡ x
    → here names text s from place ≡ go_on x
    (λ s'. run names (length text) s' (pieces_on (begun (get_or text place 0)) (place + 1) (drop (place + 1) text)))
unfolding here
here-taken names text s from place x within stops is =
    ap (run names (length text) s) (ap (pieces_on (part_of text from place) place) (rest_at text place within)
    ∙ new_step (part_of text from place) place (get_or text place 0) (drop (place + 1) text) stops)
    ∙ (run-before names (length text) s (part_of text from place) place
    (pieces_on (begun (get_or text place 0)) (place + 1) (drop (place + 1) text))
    ∙ ap (λ (y : Result State RuleRefusal). go_on y
    (λ s'. run names (length text) s'
    (pieces_on (begun (get_or text place 0)) (place + 1) (drop (place + 1) text)))) is)

-- .. and the next begins, at the byte or behind it
here-new : (names : Names) (text : List ℕ) (s s' : State) (from place from' : ℕ) → place < length text →
    continues (part_of text from place) (get_or text place 0) ≡ false
    → taken_before names s (part_of text from place) place ≡ Ok s' →
    part_of text from' (place + 1) ≡ begun (get_or text place 0)
    → here names text s' from' (place + 1) ≡ here names text s from place
unfolding here
here-new names text s s' from place from' within stops is begins =
    ap (λ (t : List ℕ). run names (length text) s' (pieces_on t (place + 1) (drop (place + 1) text))) begins
    ∙ sym (here-taken names text s from place (Ok s') within stops is)

begun_space : (b : ℕ) → b ≡ 32 → [] ≡ begun b
begun_space b h = rw h refl

begun_other : (b : ℕ) → b ≢ 32 → b ∷ [] ≡ begun b
begun_other b h = grind (arith, common_steps)

pub here-space : (names : Names) (text : List ℕ) (s s' : State) (from place : ℕ) → place < length text →
    continues (part_of text from place) (get_or text place 0) ≡ false
    → taken_before names s (part_of text from place) place ≡ Ok s' → get_or text place 0 ≡ 32
    → here names text s' (place + 1) (place + 1) ≡ here names text s from place
here-space names text s s' from place within stops is space =
    let none : (place + 1) - (place + 1) ≡ 0 = omega arith in
    here-new names text s s' from place (place + 1) within stops is
    (ap (λ (n : ℕ). take n (drop (place + 1) text)) none ∙ begun_space _ space)

pub here-other : (names : Names) (text : List ℕ) (s s' : State) (from place : ℕ) → place < length text →
    continues (part_of text from place) (get_or text place 0) ≡ false
    → taken_before names s (part_of text from place) place ≡ Ok s' → get_or text place 0 ≢ 32
    → here names text s' place (place + 1) ≡ here names text s from place
here-other names text s s' from place within stops is other =
    let one : (place + 1) - place ≡ 1 = omega arith in
    here-new names text s s' from place place within stops is
    (ap (λ (n : ℕ). take n (drop place text)) one ∙ (ap (take 1) (rest_at text place within) ∙ begun_other _ other))

refused_by : (e : RuleRefusal) (x : Result State RuleRefusal) (r : Result Formula RuleRefusal) → Answers (Err e) x →
    ((e' : RuleRefusal) → x ≡ Err e' → r ≡ Err e') → Refuses e r
refused_by (BadRule p) x r h f = f (BadRule p) h
refused_by (NoName p) x r h f = f (NoName p) h
refused_by Want x r h f = tt

pub here-refused : (names : Names) (text : List ℕ) (s : State) (from place : ℕ) (e : RuleRefusal) →
    place < length text → continues (part_of text from place) (get_or text place 0) ≡ false
    → Answers (Err e) (taken_before names s (part_of text from place) place) → Refuses e (here names text s from place)
here-refused names text s from place e within stops h =
    refused_by e _ _ h (λ e' is. here-taken names text s from place (Err e') within stops is)

-- at the beginning nothing is read
pub here-start : (names : Names) (text : List ℕ) → here names text start 0 0 ≡ read_rule names text
unfolding here read_rule
here-start names text = refl

-- at the end the last token is taken
here-last : (names : Names) (text : List ℕ) (s : State) (from place : ℕ) (x : Result State RuleRefusal) →
    length text ≡ place → taken_before names s (part_of text from (length text)) (length text) ≡ x
    → here names text s from place ≡ go_on x (ended (length text))
unfolding here
here-last names text s from place x all is =
    ap (λ (n : ℕ). run names (length text) s (pieces_on (part_of text from n) n (drop n text))) (sym all)
    ∙ (ap (λ (r : List ℕ). run names (length text) s (pieces_on (part_of text from (length text)) (length text) r))
    (drop-length text)
    ∙ (run-before names (length text) s (part_of text from (length text)) (length text) []
    ∙ ap (λ (y : Result State RuleRefusal). go_on y (ended (length text))) is))

pub here-end : (names : Names) (text : List ℕ) (s s' : State) (from place : ℕ) → length text ≡ place →
    taken_before names s (part_of text from (length text)) (length text) ≡ Ok s' →
    here names text s from place ≡ ended (length text) s'
here-end names text s s' from place all is = here-last names text s from place (Ok s') all is

pub here-end_refused : (names : Names) (text : List ℕ) (s : State) (from place : ℕ) (e : RuleRefusal) →
    length text ≡ place → Answers (Err e) (taken_before names s (part_of text from (length text)) (length text)) →
    Refuses e (here names text s from place)
here-end_refused names text s from place e all h =
    refused_by e _ _ h (λ e' is. here-last names text s from place (Err e') all is)
