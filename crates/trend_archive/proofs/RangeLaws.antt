-- What lies between two numbers of a list whose numbers rise: what is left when both ends are cut off.
use Rattle.std.proofs.Common.{◌≡◌, ◌<◌, ◌≤◌, ◌+◌, ℕ, zero, suc, Bool, true, false, ◌&&◌, List, [], ◌∷◌, ◌++◌, length}
use Rattle.std.proofs.Common.{take, drop, filter, get_or, slice_set, get_or-drop, refl, sym, ◌∙◌, ap, subst, arith}
use Rattle.std.proofs.Common.{nat_le}
use Rattle.std.proofs.lemmas.Bool.{cond-true, cond-false, and_left, and_right, and_from, le-leb, lt-leb}
use Rattle.trend_archive.specs.declared.change.Changed.{Changed}
use Rattle.trend_archive.specs.Trends.{is_between, with_change}

-- where none of the first ones passes, the filter keeps only of the rest
filter-drop : (t : Changed → Bool) (xs : List Changed) (i : ℕ) →
    ((k : ℕ) (d : Changed) → k < i → k < length xs → t (get_or xs k d) ≡ false) → filter t xs ≡ filter t (drop i xs)
filter-drop t xs zero off = refl
filter-drop t [] (suc i) off = refl
filter-drop t (x ∷ xs) (suc i) off =
    cond-false (t x) _ _ (off 0 x (omega arith) (omega arith))
    ∙ filter-drop t xs i (λ k d low within. off (suc k) d (omega arith) (omega arith))

-- where the first ones pass and none of the rest, the filter keeps the first ones
filter-take : (t : Changed → Bool) (xs : List Changed) (i : ℕ)
    → ((k : ℕ) (d : Changed) → k < i → k < length xs → t (get_or xs k d) ≡ true)
    → ((k : ℕ) (d : Changed) → i ≤ k → k < length xs → t (get_or xs k d) ≡ false)
    → filter t xs ≡ take i xs
filter-take t [] zero on off = refl
filter-take t [] (suc i) on off = refl
filter-take t (x ∷ xs) zero on off =
    cond-false (t x) _ _ (off 0 x (omega arith) (omega arith))
    ∙ filter-take t xs zero (λ k d low within. absurd (omega arith))
    (λ k d high within. off (suc k) d (omega arith) (omega arith))
filter-take t (x ∷ xs) (suc i) on off =
    cond-true (t x) _ _ (on 0 x (omega arith) (omega arith))
    ∙ ap (λ (ys : List Changed). x ∷ ys)
    (filter-take t xs i (λ k d low within. on (suc k) d (omega arith) (omega arith))
    (λ k d high within. off (suc k) d (omega arith) (omega arith)))

before : (first last n : ℕ) → n < first → (nat_le first n && nat_le n last) ≡ false
before first last n low = and_left (nat_le first n) (nat_le n last) (lt-leb first n low)

among : (first last n : ℕ) → first ≤ n → n ≤ last → (nat_le first n && nat_le n last) ≡ true
among first last n low high = and_from (nat_le first n) (nat_le n last) (le-leb first n low) (le-leb n last high)

after : (first last n : ℕ) → last < n → (nat_le first n && nat_le n last) ≡ false
after first last n high = and_right (nat_le first n) (nat_le n last) (lt-leb n last high)

-- the number of an element of what is left is that of the whole
later : (xs : List Changed) (start k first : ℕ) (d : Changed) → first ≤ (get_or xs (start + k) d).number →
    first ≤ (get_or (drop start xs) k d).number
later xs start k first d h = let same = ap (λ (x : Changed). x.number) (get_or-drop start xs k d) in omega arith

length-of_drop : (xs : List Changed) (start k : ℕ) → k < length (drop start xs) → start + k < length xs
length-of_drop xs zero k low = omega arith
length-of_drop [] (suc start) k low = absurd (omega arith)
length-of_drop (x ∷ xs) (suc start) k low = let rest = length-of_drop xs start k low in omega arith

-- both ends are found
pub between-is : (first last : ℕ) (xs : List Changed) (start end : ℕ)
    → ((k : ℕ) (d : Changed) → k < start → (get_or xs k d).number < first)
    → ((k : ℕ) (d : Changed) → start ≤ k → k < length xs → first ≤ (get_or xs k d).number)
    → ((k : ℕ) (d : Changed) → k < end → (get_or (drop start xs) k d).number ≤ last)
    → ((k : ℕ) (d : Changed) → end ≤ k → k < length (drop start xs) → last < (get_or (drop start xs) k d).number)
    → take end (drop start xs) ≡ filter (is_between first last) xs
between-is first last xs start end low from upto above =
    sym
    (filter-drop (is_between first last) xs start (λ k d lt within. before first last _ (low k d lt))
    ∙ filter-take (is_between first last) (drop start xs) end
    (λ k d lt within. among first last _
    (later xs start k first d (from (start + k) d (omega arith) (length-of_drop xs start k within))) (upto k d lt))
    (λ k d le within. after first last _ (above k d le within)))

pub between-found : (first last : ℕ) (xs rest : List Changed) (start end : ℕ) → rest ≡ drop start xs
    → ((k : ℕ) (d : Changed) → k < start → (get_or xs k d).number < first)
    → ((k : ℕ) (d : Changed) → start ≤ k → k < length xs → first ≤ (get_or xs k d).number)
    → ((k : ℕ) (d : Changed) → k < end → (get_or rest k d).number ≤ last)
    → ((k : ℕ) (d : Changed) → end ≤ k → k < length rest → last < (get_or rest k d).number)
    → take end rest ≡ filter (is_between first last) xs
between-found first last xs rest start end is low from upto above =
    ap (take end) is
    ∙ between-is first last xs start end low from
    (subst (λ (r : List Changed). (k : ℕ) (d : Changed) → k < end → (get_or r k d).number ≤ last) is upto)
    (subst (λ (r : List Changed). (k : ℕ) (d : Changed) → end ≤ k → k < length r →
    last < (get_or r k d).number) is above)

-- a list with one change more in its place
pub with_change-set : (lists : List (List Changed)) (p : ℕ) (c : Changed) (l new : List Changed) → p < length lists →
    l ≡ get_or lists p l → new ≡ l ++ c ∷ [] → slice_set lists p new ≡ with_change p c lists
with_change-set [] p c l new low at is = absurd (omega arith)
with_change-set (m ∷ ls) zero c l new low at is = let same : l ≡ m = at in
    ap (λ (x : List Changed). x ∷ ls) (is ∙ ap (λ (x : List Changed). x ++ c ∷ []) same)
with_change-set (m ∷ ls) (suc p) c l new low at is =
    ap (λ (x : List (List Changed)). m ∷ x) (with_change-set ls p c l new (omega arith) at is)

pub with_change-length : (p : ℕ) (c : Changed) (lists : List (List Changed)) →
    length (with_change p c lists) ≡ length lists
with_change-length p c [] = refl
with_change-length zero c (m ∷ ls) = refl
with_change-length (suc p) c (m ∷ ls) = ap suc (with_change-length p c ls)
