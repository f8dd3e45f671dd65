-- The raw value of a point's value is the quotient of its distance from the offset by the scale, where no rest
-- is left. As the scale is positive, no other raw value stands for it.
use Rattle.std.proofs.Common.{◌≡◌, ◌≤◌, ◌<◌, ◌*◌, ◌%◌, ◌/◌, ◌+◌, ℕ, zero, suc, Bool, true, false, if◌then◌else◌}
use Rattle.std.proofs.Common.{Option, Some, None, refl, sym, ◌∙◌, ap, arith, IfSome, IfNone, ℤ, pos, ◌+ℤ◌, ◌-ℤ◌, ◌*ℤ◌}
use Rattle.std.proofs.Common.{◌<ℤ◌}
use Rattle.std.proofs.Math.Nat.{mul-mod_left, mul-div_cancel}
use Rattle.std.proofs.lemmas.Int.{ints}
use Rattle.std.proofs.lemmas.Bool.Decides.{Decides-int_eq}
use Rattle.std.specs.Ordering.{int_eq}
use Rattle.point_table.specs.declared.point.Point.{Point}
use Rattle.point_table.specs.Point.{is_within, raw_of, scaled, first_that, greatest_raw}

-- a multiple leaves no rest
pub mul-rem : (k n : ℕ) → 1 ≤ n → (k * n) % n ≡ 0
mul-rem k n h = mul-mod_left k n

hit_step : (b : Bool) (first k : ℕ) (rest : Option ℕ) → (b ≡ true → first ≡ k) → (b ≡ false → rest ≡ Some k) →
    (if b then Some first else rest) ≡ Some k
hit_step true first k rest h g = ap Some (h refl)
hit_step false first k rest h g = g refl

above : (p : ℕ → Bool) (first k : ℕ) → first ≤ k → p first ≡ false → p k ≡ true → first < k
above p first k low off on =
    let differ : (first ≡ k) → ⊥ = λ same. let joined = ap p same in cc in
    omega arith

-- the one number that passes is the first
first_that-hit : (p : ℕ → Bool) (first n k : ℕ) → first ≤ k → k < first + n → p k ≡ true →
    ((j : ℕ) → p j ≡ true → j ≡ k) → first_that p first n ≡ Some k
first_that-hit p first zero k low high on only = absurd (omega arith)
first_that-hit p first (suc n) k low high on only =
    hit_step (p first) first k (first_that p (suc first) n) (only first)
    (λ off. first_that-hit p (suc first) n k (let h : first < k = above p first k low off on in omega arith)
    (omega arith) on only)

miss_step : (b : Bool) (first : ℕ) (rest : Option ℕ) → b ≡ false → rest ≡ None → (if b then Some first else rest) ≡ None
miss_step true first rest h g = absurd (cc)
miss_step false first rest h g = g

-- where none passes there is no first
first_that-none : (p : ℕ → Bool) (first n : ℕ) → ((j : ℕ) → j < first + n → p j ≡ false) → first_that p first n ≡ None
first_that-none p first zero off = refl
first_that-none p first (suc n) off =
    miss_step (p first) first (first_that p (suc first) n) (off first (omega arith))
    (first_that-none p (suc first) n (λ j low. off j (omega arith)))

as_scaled : (raw n away : ℕ) (scale offset v : ℤ) → scale ≡ pos n → v -ℤ offset ≡ pos away → raw * n ≡ away →
    (pos raw *ℤ scale) +ℤ offset ≡ v
as_scaled raw n away scale offset v e d m = rw e (omega (arith, ints))

as_product : (raw n away : ℕ) (scale offset v : ℤ) → scale ≡ pos n → v -ℤ offset ≡ pos away →
    (pos raw *ℤ scale) +ℤ offset ≡ v → raw * n ≡ away
as_product raw n away scale offset v e d m = let m' : (pos raw *ℤ pos n) +ℤ offset ≡ v =
    rw e at m in omega (arith, ints)

cancelled : (j k n : ℕ) → 1 ≤ n → j * n ≡ k * n → j ≡ k
cancelled j k n h e = sym (mul-div_cancel j h) ∙ ap (λ x. x / n) e ∙ mul-div_cancel k h

not_true : (b : Bool) → (b ≡ true → ⊥) → b ≡ false
not_true true h = absurd (h refl)
not_true false h = refl

within_none : (b : Bool) (r : Option ℕ) → r ≡ None → None ≡ (if b then r else None)
within_none true r e = sym e
within_none false r e = refl

within_some : (b : Bool) (r s : Option ℕ) → b ≡ true → s ≡ r → r ≡ (if b then s else None)
within_some true r s h e = sym e
within_some false r s h e = absurd (cc)

-- where no raw value stands for v, there is none
pub raw_of-none : (p : Point) (v : ℤ) → ((j : ℕ) → j ≤ greatest_raw p.area → scaled p j ≡ v → ⊥) → None ≡ raw_of p v
unfolding raw_of
raw_of-none p v none =
    within_none (is_within p v) _ (first_that-none (λ raw. int_eq (scaled p raw) v) 0 (suc (greatest_raw p.area))
    (λ j low. not_true _ (λ on. none j (omega arith) ((Decides-int_eq (scaled p j) v).0 on))))

-- a value below the offset has none
pub raw_of-below : (p : Point) (v : ℤ) (n : ℕ) → p.scale ≡ pos n → (v -ℤ p.offset) <ℤ pos 0 → None ≡ raw_of p v
raw_of-below p v n e low = raw_of-none p v (λ j small is. below j n p.scale p.offset v e low is)
  where
    below : (j n : ℕ) (scale offset v : ℤ) → scale ≡ pos n → (v -ℤ offset) <ℤ pos 0 → (pos j *ℤ scale) +ℤ offset ≡ v → ⊥
    below j n scale offset v e low is = let is' : (pos j *ℤ pos n) +ℤ offset ≡ v = rw e at is in omega (arith, ints)

pub raw_of-outside : (p : Point) (v : ℤ) → is_within p v ≡ false → None ≡ raw_of p v
unfolding raw_of
raw_of-outside p v out = rw out refl

-- the quotient that leaves no rest is the raw value
pub raw_of-quotient : (p : Point) (v : ℤ) (away n most : ℕ) (r : Option ℕ) → is_within p v ≡ true →
    v -ℤ p.offset ≡ pos away → p.scale ≡ pos n → 1 ≤ n → most ≡ greatest_raw p.area
    → IfSome r (λ raw. (raw * n ≡ away) × (raw ≤ most)) → IfNone r ((raw : ℕ) → raw ≤ most → raw * n ≡ away → ⊥) →
    r ≡ raw_of p v
unfolding raw_of
raw_of-quotient p v away n most (Some raw) within apart scale positive greatest found none =
    within_some (is_within p v) (Some raw) _ within
    (first_that-hit (λ raw. int_eq (scaled p raw) v) 0 (suc (greatest_raw p.area)) raw (omega arith) (omega arith)
    ((Decides-int_eq (scaled p raw) v).1 (as_scaled raw n away p.scale p.offset v scale apart found.0))
    (λ j on. cancelled j raw n positive
    (as_product j n away p.scale p.offset v scale apart ((Decides-int_eq (scaled p j) v).0 on) ∙ sym found.0)))
raw_of-quotient p v away n most None within apart scale positive greatest found none =
    raw_of-none p v (λ j low is. none j (omega arith) (as_product j n away p.scale p.offset v scale apart is))
