-- The four equal rows are in their place: a row has a number for each of the four masters, two of the caller's and two
-- zeros, and none is above the limit of 4,096.
use Rattle.std.proofs.Common.{◌≡◌, ◌<◌, ◌≤◌, ℕ, true, ◌&&◌, List, [], ◌∷◌, length, nat_eq, nat_le, sym, ◌∙◌, ap}
use Rattle.std.proofs.Common.{subst, refl, arith}
use Rattle.std.specs.Prelude.{replicate}
use Rattle.std.specs.List.{list_all}
use Rattle.std.proofs.lemmas.Bool.{and_from, le-leb, eq-eqb}
use Rattle.protocol_rules.specs.Group.{Group, most_number}
use Rattle.protocol_rules.specs.Places.{are_rows, is_row}
use Rattle.protocol_rules.proofs.LimitValues.{most_number-is}
use Rattle.prime_tests.proofs.runs.take_agreed.Goals as goal

row_placed : (g : Group) (first second : ℕ) → g.n ≡ 4 → first ≤ 4096 → second ≤ 4096 →
    is_row g (first ∷ second ∷ 0 ∷ 0 ∷ []) ≡ true
row_placed g first second four one two =
    let limit : most_number ≡ 4096 = most_number-is in
    and_from (nat_eq 4 g.n) (list_all (λ x. nat_le x most_number) (first ∷ second ∷ 0 ∷ 0 ∷ []))
    (eq-eqb 4 g.n (sym four))
    (and_from (nat_le first most_number)
    (nat_le second most_number && (nat_le 0 most_number && (nat_le 0 most_number && true)))
    (le-leb first most_number (omega arith))
    (and_from (nat_le second most_number) (nat_le 0 most_number && (nat_le 0 most_number && true))
    (le-leb second most_number (omega arith))
    (and_from (nat_le 0 most_number) (nat_le 0 most_number && true) (le-leb 0 most_number (omega arith))
    (and_from (nat_le 0 most_number) true (le-leb 0 most_number (omega arith)) refl))))

rows_placed : (g : Group) (row : List ℕ) → g.n ≡ 4 → is_row g row ≡ true → are_rows g (replicate 4 row) ≡ true
rows_placed g row four placed =
    and_from (nat_eq 4 g.n) (list_all (is_row g) (replicate 4 row)) (eq-eqb 4 g.n (sym four))
    (and_from (is_row g row) _ placed
    (and_from (is_row g row) _ placed
    (and_from (is_row g row) _ placed (and_from (is_row g row) true placed refl))))

pub take_rows-requires-clause-rows : goal.take_rows-requires-clause-rows
take_rows-requires-clause-rows c =
    ap (are_rows c.args.run.now.group) c.in_ok-rows.ensures
    ∙ rows_placed c.args.run.now.group (c.args.first ∷ c.args.second ∷ 0 ∷ 0 ∷ []) c.requires.masters
    (row_placed c.args.run.now.group c.args.first c.args.second c.requires.masters
    c.requires.first c.requires.second)

pub take_rows-requires-clause-number : goal.take_rows-requires-clause-number
take_rows-requires-clause-number c = let limit : most_number ≡ 4096 = most_number-is in
    let below : c.args.run.now.numbers < 4096 = c.requires.number in omega arith
