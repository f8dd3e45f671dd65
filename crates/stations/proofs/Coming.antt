-- What comes next of an input is what its bytes ask for next.
use Rattle.std.proofs.Common.{◌≡◌, ℕ, ◌<◌, ◌≤◌, ◌==◌, Bool, true, false, cond, not, ◌&&◌, List, [], ◌∷◌, ◌++◌, Option, Some}
use Rattle.std.proofs.Common.{None, length, nat_le, refl, sym, ◌∙◌, ap, subst, arith}
use Rattle.std.proofs.lemmas.Bool.{and_parts}
use Rattle.std.specs.List.{onto_first}
use Rattle.std.specs.Option.{option_to_list}
use Rattle.run_lines.specs.Runs.{pieces, is_empty}
use Rattle.run_lines.proofs.Cutting.{pieces_some}
use Rattle.station_files.specs.declared.lines.Came.{Came}
use Rattle.station_files.specs.declared.lines.Came.TheVariants as came
use Rattle.station_files.specs.Input.{IsFirst, Comes, ComesOf}
use Rattle.station_files.specs.WholeLines.{has_no_feed}
use Rattle.station_rules.specs.Answers.{Asked, Unclear, line_asked}
use Rattle.stations.specs.Asking.{line_within, pieces_asked, input_asked, AskedOf}
use Rattle.stations.specs.Going.{came_asked}

not_true : (b : Bool) → not b ≡ true → b ≡ false
not_true true e = sym e
not_true false e = refl

-- a line feed cuts
cut_front : (line after : List ℕ) → has_no_feed line ≡ true → pieces (line ++ 10 ∷ after) ≡ line ∷ pieces after
cut_front [] after one = refl
cut_front (x ∷ line) after one =
    let both = and_parts (not (x == 10)) (has_no_feed line) one in
    ap (λ (b : Bool). cond b ([] ∷ pieces (line ++ 10 ∷ after)) (onto_first x (pieces (line ++ 10 ∷ after))))
    (not_true (x == 10) both.0)
    ∙ ap (onto_first x) (cut_front line after both.1)

uncut : (bytes : List ℕ) → has_no_feed bytes ≡ true → pieces bytes ≡ bytes ∷ []
uncut [] one = refl
uncut (x ∷ rest) one =
    let both = and_parts (not (x == 10)) (has_no_feed rest) one in
    ap (λ (b : Bool). cond b ([] ∷ pieces rest) (onto_first x (pieces rest))) (not_true (x == 10) both.0)
    ∙ ap (onto_first x) (uncut rest both.1)

asked_first : (room : ℕ) (line : List ℕ) (parts : List (List ℕ)) → 0 < length parts →
    pieces_asked room (line ∷ parts) ≡ line_within room line ∷ pieces_asked room parts
asked_first room line [] some = absurd (omega arith)
asked_first room line (next ∷ more) some = refl

-- the first line asks first
line_next : (room : ℕ) (bytes line after : List ℕ) (asked : Asked) → IsFirst bytes line after →
    line_within room line ≡ asked → input_asked room bytes ≡ asked ∷ input_asked room after
unfolding input_asked
line_next room bytes line after asked first is =
    ap (pieces_asked room) (ap pieces first.whole ∙ cut_front line after first.one)
    ∙ asked_first room line (pieces after) (pieces_some after)
    ∙ ap (λ (a : Asked). a ∷ pieces_asked room (pieces after)) is

-- bytes that no line feed ends
rest_next : (room : ℕ) (bytes : List ℕ) → has_no_feed bytes ≡ true → (bytes ≡ [] → ⊥) →
    input_asked room bytes ≡ Unclear ∷ []
unfolding input_asked
rest_next room [] one some = absurd (some refl)
rest_next room (x ∷ rest) one some = ap (pieces_asked room) (uncut (x ∷ rest) one)

none_next : (room : ℕ) → input_asked room [] ≡ []
unfolding input_asked
none_next room = refl

within_so : (room : ℕ) (line : List ℕ) → length line ≤ room → line_within room line ≡ line_asked line
within_so room line fits = ap (λ (b : Bool). cond b (line_asked line) Unclear) fits_so
  where
    fits_so : nat_le (length line) room ≡ true
    fits_so = grind (arith, fits)

beyond_so : (room : ℕ) (line : List ℕ) → room < length line → line_within room line ≡ Unclear
beyond_so room line long = ap (λ (b : Bool). cond b (line_asked line) Unclear) long_so
  where
    long_so : nat_le (length line) room ≡ false
    long_so = grind (arith, long)

pub came_next : (room : ℕ) (before after : Option (List ℕ)) (c : Came) → ComesOf room before c after →
    AskedOf room before (option_to_list (came_asked c)) after
came_next room None after c comes = tt
came_next room (Some bytes) None c comes = absurd comes
came_next room (Some bytes) (Some rest) (came.Line line) comes =
    line_next room bytes line.items rest (line_asked line.items) comes.0 (within_so room line.items comes.1)
came_next room (Some bytes) (Some rest) came.TooLong comes =
    line_next room bytes comes.0 rest Unclear comes.1 (beyond_so room comes.0 comes.2)
came_next room (Some bytes) (Some rest) came.Unended comes =
    rest_next room bytes comes.0 comes.1
    ∙ ap (λ (more : List Asked). Unclear ∷ more) (sym (ap (input_asked room) comes.2 ∙ none_next room))
came_next room (Some bytes) (Some rest) came.End comes =
    ap (input_asked room) (comes.0 ∙ sym comes.1)
