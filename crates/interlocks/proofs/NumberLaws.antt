-- One `not` or one digit more is as the definition goes on. A number above 2^63 only grows with more digits, so
-- that reading may stop there.
use Rattle.std.proofs.Common.{◌≡◌, ◌<◌, ◌+◌, ◌*◌, ◌-◌, ℕ, zero, suc, Bool, true, false, if◌then◌else◌, List, [], ◌∷◌}
use Rattle.std.proofs.Common.{drop, get_or, length, Option, None, refl, sym, ◌∙◌, ap, arith, add-one}
use Rattle.std.specs.Option.{option_and_then}
use Rattle.std.specs.Char.{is_ascii_digit}
use Rattle.interlocks.specs.Formula.{Formula, negation, negated}
use Rattle.interlocks.specs.Numbers.{digits_on, at_most_2_63}

-- one `not` more
pub negated_step : (m n : ℕ) (f g h : Formula) → m ≡ suc n → negated m f ≡ h → g ≡ f → negated n (negation g) ≡ h
negated_step m n f g h e is same = ap (λ (x : Formula). negated n (negation x)) same
    ∙ (ap (λ (k : ℕ). negated k f) (sym e) ∙ is)

too_big : (n : ℕ) → 9223372036854775808 < n → at_most_2_63 n ≡ None
too_big n h = grind arith

grow_step : (b : Bool) (r : Option ℕ) → option_and_then at_most_2_63 r ≡ None →
    option_and_then at_most_2_63 (if b then r else None) ≡ None
grow_step true r h = h
grow_step false r h = refl

-- a number above 2^63 only grows
pub too_big_on : (n : ℕ) (ds : List ℕ) → 9223372036854775808 < n → option_and_then at_most_2_63 (digits_on n ds) ≡ None
too_big_on n [] h = too_big n h
too_big_on n (d ∷ ds) h = grow_step (is_ascii_digit d) (digits_on (n * 10 + (d - 48)) ds)
    (too_big_on (n * 10 + (d - 48)) ds (omega arith))

-- one digit more
pub digits_step : (n i : ℕ) (ds : List ℕ) (d : ℕ) → i < length ds → d ≡ get_or ds i 0 → is_ascii_digit d ≡ true →
    digits_on n (drop i ds) ≡ digits_on (n * 10 + (d - 48)) (drop (i + 1) ds)
digits_step n i [] d low at is = absurd (omega arith)
digits_step n zero (e ∷ ds) d low at is = let there : d ≡ e = at in rw (← there) (rw is refl)
digits_step n (suc i) (e ∷ ds) d low at is =
    rw (add-one (suc i)) (rw (add-one i) at (digits_step n i ds d (omega arith) at is))

pub digits_end : (n i : ℕ) (ds : List ℕ) (d : ℕ) → i < length ds → d ≡ get_or ds i 0 → is_ascii_digit d ≡ false →
    digits_on n (drop i ds) ≡ None
digits_end n i [] d low at is = absurd (omega arith)
digits_end n zero (e ∷ ds) d low at is = let there : d ≡ e = at in rw (← there) (rw is refl)
digits_end n (suc i) (e ∷ ds) d low at is = digits_end n i ds d (omega arith) at is

-- a number that is above 2^63 after one more digit stays none
pub digits_too_big : (n m i : ℕ) (ds all : List ℕ) (d : ℕ) → i < length ds → d ≡ get_or ds i 0 →
    is_ascii_digit d ≡ true → m ≡ n * 10 + (d - 48) → 9223372036854775808 < m →
    digits_on n (drop i ds) ≡ digits_on 0 all
    → None ≡ option_and_then at_most_2_63 (digits_on 0 all)
digits_too_big n m i ds all d low at is grown big so_far =
    sym (ap (option_and_then at_most_2_63)
    (sym so_far ∙ (digits_step n i ds d low at is ∙ ap (λ (k : ℕ). digits_on k (drop (i + 1) ds)) (sym grown)))
    ∙ too_big_on m (drop (i + 1) ds) big)
