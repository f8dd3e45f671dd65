-- Rows in their place are within the limits of rows that have a spelling.
use Rattle.std.proofs.Common.{◌≡◌, ◌≤◌, ℕ, true, false, ◌&&◌, List, [], ◌∷◌, length, nat_eq, nat_le, refl, sym, ◌∙◌}
use Rattle.std.proofs.Common.{arith, eqb-true, le-leb}
use Rattle.std.specs.List.{list_all}
use Rattle.std.proofs.lemmas.Bool.{and_parts, and_from, ne_eqb, cond-false}
use Rattle.message_types.specs.Spelling.{row_fits, rows_fit}
use Rattle.protocol_rules.specs.Group.{Group, most_number}
use Rattle.protocol_rules.specs.Places.{is_row, are_rows}

pub row_is_short : (g : Group) (row : List ℕ) → g.n ≤ 14 → is_row g row ≡ true → row_fits row ≡ true
row_is_short g [] few e = refl
row_is_short g (x ∷ row) few e =
    let some : nat_eq (length (x ∷ row)) 0 ≡ false =
    ne_eqb (length (x ∷ row)) 0 (λ h. let none : length (x ∷ row) ≡ 0 = h in omega arith) in
    let rest = nat_eq (length (x ∷ row)) g.n && list_all (λ v. nat_le v most_number) (x ∷ row) in
    let both : rest ≡ true = sym (cond-false (nat_eq (length (x ∷ row)) 0) true rest some) ∙ e in
    let parts = and_parts (nat_eq (length (x ∷ row)) g.n) (list_all (λ v. nat_le v most_number) (x ∷ row)) both in
    let len = eqb-true (length (x ∷ row)) g.n parts.0 in
    le-leb (length (x ∷ row)) 14 (omega arith)

pub rows_are_short : (g : Group) (rows : List (List ℕ)) → g.n ≤ 14 → list_all (is_row g) rows ≡ true →
    list_all row_fits rows ≡ true
rows_are_short g [] few e = refl
rows_are_short g (row ∷ rows) few e =
    let parts = and_parts (is_row g row) (list_all (is_row g) rows) e in
    and_from (row_fits row) (list_all row_fits rows) (row_is_short g row few parts.0)
    (rows_are_short g rows few parts.1)

pub rows_in_place_fit : (g : Group) (rows : List (List ℕ)) → g.n ≤ 14 → are_rows g rows ≡ true → rows_fit rows ≡ true
rows_in_place_fit g rows few e =
    let parts = and_parts (nat_eq (length rows) g.n) (list_all (is_row g) rows) e in
    let len = eqb-true (length rows) g.n parts.0 in
    and_from (nat_le (length rows) 14) (list_all row_fits rows) (le-leb (length rows) 14 (omega arith))
    (rows_are_short g rows few parts.1)
