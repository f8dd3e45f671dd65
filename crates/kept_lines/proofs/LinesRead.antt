-- The lines of a file read in turn.
use Rattle.std.proofs.Common.{◌≡◌, ℕ, ◌+◌, ◌<◌, ◌≤◌, true, List, [], ◌∷◌, ◌++◌, Option, Ok, Err, length, refl, sym, ◌∙◌}
use Rattle.std.proofs.Common.{ap, subst, arith}
use Rattle.std.proofs.lemmas.List.{length-append}
use Rattle.scenario_file.specs.Reading.{Contents}
use Rattle.history_rules.specs.Events.{Entry}
use Rattle.history_rules.specs.Legal.{IsLegal}
use Rattle.world_rules.specs.Scenarios.{setup_of}
use Rattle.run_lines.specs.Runs.{pieces}
use Rattle.run_lines.proofs.Cutting.{pieces_some}
use Rattle.printed_history.specs.declared.reading.SoFar.{SoFar}
use Rattle.printed_history.specs.Reading.{HasMore, IsSoFar, contents_in, is_among, is_at_hand}
use Rattle.kept_lines.specs.declared.refusal.KeptRefusal.{KeptRefusal}
use Rattle.kept_lines.specs.declared.refusal.KeptRefusal.TheVariants as refusal
use Rattle.joint_lists.specs.Stations.{acts_alone, IsStation}
use Rattle.joint_lists.proofs.Alone.{alone_more}
use Rattle.kept_lines.proofs.Adding.{line_actor}
use Rattle.kept_lines.specs.Reading.{Reading, line_in, lines_in, kept_in, Refuses}

-- What is left tells the rest of what all tells, and each entry took a byte at least.
pub record IsAmid (c : Contents) (only : Option ℕ) (actor : ℕ) (bytes rest : List ℕ) (r : SoFar) : Type 0 where
  pub is_so_far : IsSoFar r
  pub same : contents_in r ≡ c
  pub at_hand : r.only ≡ only
  pub alone : acts_alone actor r.history ≡ true
  pub left : lines_in c actor r.history (pieces rest) ≡ lines_in c actor [] (pieces bytes)
  pub short : length r.history + length rest ≤ length bytes

-- the lines behind one
abbrev pub after_line : Contents → ℕ → List Entry → List (List ℕ) → Reading Entry → Reading (List Entry)
after_line c actor before parts r =
    elim r [ Err e ↦ Err e | Ok e ↦ lines_in c actor (before ++ e ∷ []) parts ]

one_line : (c : Contents) (actor : ℕ) (before : List Entry) (line : List ℕ) (parts : List (List ℕ)) → 0 < length parts →
    lines_in c actor before (line ∷ parts) ≡ after_line c actor before parts (line_in c actor before line)
one_line c actor before line [] some = absurd (omega arith)
one_line c actor before line (next ∷ more) some = refl

pub cut_here : (c : Contents) (actor : ℕ) (before : List Entry) (rest line after : List ℕ) →
    pieces rest ≡ line ∷ pieces after →
    lines_in c actor before (pieces rest) ≡ after_line c actor before (pieces after) (line_in c actor before line)
cut_here c actor before rest line after cut =
    ap (lines_in c actor before) cut ∙ one_line c actor before line (pieces after) (pieces_some after)

-- before the first line
pub at_first : (actor : ℕ) (bytes : List ℕ) (r : SoFar) → IsSoFar r → r.history ≡ [] →
    IsAmid (contents_in r) r.only actor bytes bytes r
at_first actor bytes r is none =
    let zero : length r.history ≡ 0 = ap length none in
    record {
      is_so_far = is;
      same = refl;
      at_hand = refl;
      alone = ap (acts_alone actor) none;
      left = ap (λ (es : List Entry). lines_in (contents_in r) actor es (pieces bytes)) none;
      short = omega arith;
    }

-- a line that was read
pub read_on : (c : Contents) (only : Option ℕ) (actor : ℕ) (bytes rest line after : List ℕ) (old new : SoFar) →
    IsAmid c only actor bytes rest old → pieces rest ≡ line ∷ pieces after → length after < length rest →
    (e : Entry) → line_in (contents_in old) actor old.history line ≡ Ok e → HasMore old new e →
    IsAmid c only actor bytes after new
read_on c only actor bytes rest line after old new amid cut shorter e is more =
    let longer : length new.history ≡ length old.history + 1 = ap length more.longer
    ∙ length-append old.history (e ∷ []) in
    let most : length old.history + length rest ≤ length bytes = amid.short in
    record {
      is_so_far = more.is_so_far;
      same = more.same ∙ amid.same;
      at_hand = more.at_hand ∙ amid.at_hand;
      alone = ap (acts_alone actor) more.longer
          ∙ alone_more actor old.history e amid.alone (line_actor (contents_in old) actor old.history line e is);
      left =
          ap (λ (es : List Entry). lines_in c actor es (pieces after)) more.longer
          ∙ ap (after_line c actor old.history (pieces after))
          (sym (ap (λ (x : Contents). line_in x actor old.history line) (sym amid.same) ∙ is))
          ∙ sym (cut_here c actor old.history rest line after cut)
          ∙ amid.left;
      short = omega arith;
    }

-- its actor is at hand
pub line_own : (c : Contents) (only : Option ℕ) (actor : ℕ) (bytes rest : List ℕ) (r : SoFar) →
    IsAmid c only actor bytes rest r → is_among only actor ≡ true → is_at_hand r actor ≡ true
line_own c only actor bytes rest r amid own = ap (λ (o : Option ℕ). is_among o actor) amid.at_hand ∙ own

-- there is room for its entry
pub line_short : (c : Contents) (only : Option ℕ) (actor : ℕ) (bytes rest : List ℕ) (limit : ℕ) (r : SoFar) →
    IsAmid c only actor bytes rest r → length bytes < limit → length r.history < limit
line_short c only actor bytes rest limit r amid few =
    let most : length r.history + length rest ≤ length bytes = amid.short in
    omega arith

refuses_all : (e : KeptRefusal) (right : Reading Entry) (all : Reading (List Entry)) → Refuses e right →
    ((f : KeptRefusal) → right ≡ Err f → all ≡ Err f) → Refuses e all
refuses_all (refusal.BadLine n) right all is follows = follows (refusal.BadLine n) is
refuses_all (refusal.NotLegal n) right all is follows = follows (refusal.NotLegal n) is
refuses_all (refusal.OtherWords n) right all is follows = follows (refusal.OtherWords n) is
refuses_all refusal.Want right all is follows = tt

-- a line that is refused
pub line_refused : (c : Contents) (only : Option ℕ) (actor : ℕ) (bytes rest line after : List ℕ) (r : SoFar)
    (e : KeptRefusal) → IsAmid c only actor bytes rest r → pieces rest ≡ line ∷ pieces after →
    Refuses e (line_in (contents_in r) actor r.history line) → Refuses e (kept_in c actor bytes)
unfolding kept_in
line_refused c only actor bytes rest line after r e amid cut is =
    refuses_all e (line_in (contents_in r) actor r.history line) (kept_in c actor bytes) is (λ f fault.
    sym amid.left ∙ cut_here c actor r.history rest line after cut
    ∙ ap (after_line c actor r.history (pieces after))
    (ap (λ (x : Contents). line_in x actor r.history line) (sym amid.same) ∙ fault))

-- what was read is a station's
pub station_read : (c : Contents) (only : Option ℕ) (actor : ℕ) (bytes rest : List ℕ) (r : SoFar) →
    IsAmid c only actor bytes rest r → IsStation c actor r.history
station_read c only actor bytes rest r amid = record {
  legal = subst (λ (x : Contents). IsLegal (setup_of x) r.history) amid.same amid.is_so_far.is_legal;
  alone = amid.alone;
}

-- no whole line is left
pub all_read : (c : Contents) (only : Option ℕ) (actor : ℕ) (bytes rest : List ℕ) (r : SoFar) →
    IsAmid c only actor bytes rest r → pieces rest ≡ rest ∷ [] → kept_in c actor bytes ≡ Ok r.history
unfolding kept_in
all_read c only actor bytes rest r amid last = sym amid.left ∙ ap (lines_in c actor r.history) last
