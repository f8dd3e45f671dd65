-- Decimal numbers: what the standard parser answers for them, and that of two of them the smaller is the shorter one
-- or, of equally long ones, the one with the smaller digit where they first differ. Digits are followed from the left:
-- what is smaller before further digits stays smaller behind as many.
use Rattle.std.proofs.Common.{rules, if◌then◌else◌, ◌==◌, ◌≡◌, ◌≢◌, ◌<◌, ◌≤◌, ◌+◌, ◌-◌, ◌*◌, ◌^◌, ℕ, zero, suc, Bool}
use Rattle.std.proofs.Common.{true, false, not, ◌&&◌, ◌||◌, nat_eq, nat_lt, nat_le, List, [], ◌∷◌, length, Option}
use Rattle.std.proofs.Common.{Some, None, Result, Ok, Err, refl, sym, ◌∙◌, ap, subst, arith}
use Rattle.std.specs.List.{list_all}
use Rattle.std.specs.Char.{is_ascii_digit, digit_value}
use Rattle.std.specs.Int.{IsInRange}
use Rattle.std.specs.Option.{MatchOption}
use Rattle.std.specs.Result.{OkIff, result_ok}
use Rattle.std.specs.Str.Parse.{AllDigits, digits_value, digits_value_after, ParsesUnsigned}
use Rattle.std.proofs.lemmas.Str.{digit_value_digit}
use Rattle.std.proofs.lemmas.Str.Parse.{IsNumeralModel, numerals_by_value, parse_digits, digit_from_value}
use Rattle.std.proofs.lemmas.Bool.{lt-ltb, le-ltb, ltb-true}
use Rattle.script_grammar.specs.Faults.{bad}
use Rattle.script_grammar.specs.Numbers.{starts_as_number, is_numeral, number_in, below_zero_in, not_below_zero_in}
use Rattle.script_grammar.specs.Numbers.{signed_in}
use Rattle.plain_lists.proofs.Booleans.{nat_eq-itself}

pub own : IsNumeralModel (λ ds. list_all is_ascii_digit ds ≡ true) (digits_value 10)
own = numerals_by_value _ (search rules)

both_true : (a b : Bool) → a && b ≡ true → (a ≡ true) × (b ≡ true)
both_true true true h = (refl, refl)
both_true true false h = absurd (cc)
both_true false b h = absurd (cc)

some_digit : (text : List ℕ) → starts_as_number text ≡ true → 0 < length text
some_digit [] h = absurd (cc)
some_digit (d ∷ ds) h = omega arith

not_less : (a b : ℕ) → (a < b → ⊥) → b ≤ a
not_less a b none = grind (arith, none)

answered : {E : Type 0} (r : Result ℕ E) (P Q : Type 0) (v : ℕ) → OkIff r P v → (¬ P → Q) →
    MatchOption (result_ok r) Q (λ n. n ≡ v)
answered (Ok n) P Q v iff none = iff.1
answered (Err e) P Q v iff none = none iff

-- the parser's number is that of the digits, unless it has more than 64 bits
pub value_of : {E : Type 0} (text : List ℕ) (r : Result ℕ E) → is_numeral text ≡ true → ParsesUnsigned 64 10 text r
    → MatchOption (result_ok r) (2 ^ 64 ≤ digits_value 10 text) (λ n. n ≡ digits_value 10 text)
value_of text r is parses =
    let parts = both_true (starts_as_number text) (list_all is_ascii_digit text) is in
    answered r _ _ (digits_value 10 text) (parse_digits own 64 text r parses parts.1)
    (λ none. not_less (digits_value 10 text) (2 ^ 64) (λ fits. none (some_digit text parts.0, fits)))

-- a smaller number stays smaller behind as many digits more
below : (n m : ℕ) (xs ys : List ℕ) → n < m → AllDigits 10 xs → length xs ≡ length ys →
    digits_value_after 10 n xs < digits_value_after 10 m ys
below n m [] [] less digits same = less
below n m [] (y ∷ ys) less digits same = absurd (omega arith)
below n m (x ∷ xs) [] less digits same = absurd (omega arith)
below n m (x ∷ xs) (y ∷ ys) less digits same =
    below (n * 10 + digit_value x) (m * 10 + digit_value y) xs ys (omega (arith, digits.0)) digits.1 (omega arith)

fewer : (m : ℕ) (xs ys : List ℕ) → 0 < m → AllDigits 10 xs → length xs ≤ length ys →
    digits_value_after 10 0 xs < digits_value_after 10 m ys
fewer m xs [] some digits few = below 0 m xs [] some digits (omega arith)
fewer m xs (y ∷ ys) some digits few =
    by (nat_le (length xs) (length ys)) refl (fewer (m * 10 + digit_value y) xs ys (omega arith) digits)
  where
    by : (b : Bool) → nat_le (length xs) (length ys) ≡ b →
        (length xs ≤ length ys → digits_value_after 10 0 xs < digits_value_after 10 (m * 10 + digit_value y) ys)
        → digits_value_after 10 0 xs < digits_value_after 10 m (y ∷ ys)
    by true is later = later (grind arith)
    by false is later = below 0 m xs (y ∷ ys) some digits (grind arith)

first_is_some : (y z : ℕ) (ys : List ℕ) → starts_as_number (y ∷ z ∷ ys) ≡ true → digit_value y < 10 → 0 < digit_value y
first_is_some y z ys starts is =
    let range = digit_from_value y is in
    let back : digit_value y + 48 ≡ y = digit_value_digit y range in
    by (nat_eq y 48) refl back
  where
    by : (b : Bool) → nat_eq y 48 ≡ b → digit_value y + 48 ≡ y → 0 < digit_value y
    by true same back = absurd (let no : not (nat_eq y 48) ≡ true = starts in cc)
    by false same back = grind arith

-- a number of fewer digits is smaller
pub shorter_is_smaller : (xs ys : List ℕ) → is_numeral xs ≡ true → is_numeral ys ≡ true → length xs < length ys →
    digits_value 10 xs < digits_value 10 ys
shorter_is_smaller xs [] is it less = absurd (omega arith)
shorter_is_smaller xs (y ∷ []) is it less =
    let some = some_digit xs (both_true (starts_as_number xs) _ is).0 in absurd (omega arith)
shorter_is_smaller xs (y ∷ z ∷ ys) is it less =
    let mine = own.to xs (both_true (starts_as_number xs) _ is).1 in
    let parts = both_true (starts_as_number (y ∷ z ∷ ys)) (list_all is_ascii_digit (y ∷ z ∷ ys)) it in
    let its = own.to (y ∷ z ∷ ys) parts.1 in
    fewer (0 * 10 + digit_value y) xs (z ∷ ys) (omega (arith, first_is_some y z ys parts.0 its.0)) mine (omega arith)

-- whether the first digit that differs is smaller
abbrev pub lower : List ℕ → List ℕ → Bool
lower [] [] = false
lower [] (y ∷ ys) = true
lower (x ∷ xs) [] = false
lower (x ∷ xs) (y ∷ ys) = nat_lt x y || (nat_eq x y && lower xs ys)

differ : (x y : ℕ) → y < x → nat_eq x y ≡ false
differ x y less = grind arith

same_from : (x y : ℕ) → nat_lt x y ≡ false → nat_lt y x ≡ false → x ≡ y
same_from x y no_less no_more = grind arith

smaller_digit : (x y : ℕ) → digit_value x < 10 → digit_value y < 10 → x < y → digit_value x < digit_value y
smaller_digit x y is it less =
    omega (arith, digit_value_digit x (digit_from_value x is), digit_value_digit y (digit_from_value y it))

pub lower_is_smaller : (n : ℕ) (xs ys : List ℕ) → AllDigits 10 xs → AllDigits 10 ys → length xs ≡ length ys
    → lower xs ys ≡ nat_lt (digits_value_after 10 n xs) (digits_value_after 10 n ys)
lower_is_smaller n [] [] mine its same = sym (le-ltb n n (omega arith))
lower_is_smaller n [] (y ∷ ys) mine its same = absurd (omega arith)
lower_is_smaller n (x ∷ xs) [] mine its same = absurd (omega arith)
lower_is_smaller n (x ∷ xs) (y ∷ ys) mine its same =
    by (nat_lt x y) (nat_lt y x) refl refl (lower_is_smaller (n * 10 + digit_value x) xs ys mine.1 its.1 (omega arith))
  where
    by : (b d : Bool) → nat_lt x y ≡ b → nat_lt y x ≡ d
        → lower xs ys ≡ nat_lt (digits_value_after 10 (n * 10 + digit_value x) xs)
        (digits_value_after 10 (n * 10 + digit_value x) ys)
        → b || (nat_eq x y && lower xs ys) ≡ nat_lt (digits_value_after 10 (n * 10 + digit_value x) xs)
        (digits_value_after 10 (n * 10 + digit_value y) ys)
    by true d less more later =
        let digit : digit_value x < digit_value y = smaller_digit x y mine.0 its.0 (ltb-true x y less) in
        sym (lt-ltb _ _ (below (n * 10 + digit_value x) (n * 10 + digit_value y) xs ys
        (omega arith) mine.1 (omega arith)))
    by false true less more later =
        let digit : digit_value y < digit_value x = smaller_digit y x its.0 mine.0 (ltb-true y x more) in
        let greater : digits_value_after 10 (n * 10 + digit_value y) ys < digits_value_after 10
        (n * 10 + digit_value x) xs =
        below (n * 10 + digit_value y) (n * 10 + digit_value x) ys xs (omega arith) its.1 (omega arith) in
        ap (λ b. b && lower xs ys) (differ x y (ltb-true y x more))
        ∙ sym (le-ltb (digits_value_after 10 (n * 10 + digit_value x) xs)
        (digits_value_after 10 (n * 10 + digit_value y) ys) (omega arith))
    by false false less more later =
        let same_digit : x ≡ y = same_from x y less more in
        ap (λ z. nat_eq x z && lower xs ys) (sym same_digit) ∙ ap (λ b. b && lower xs ys) (nat_eq-itself x)
        ∙ (later ∙ ap (λ z. nat_lt (digits_value_after 10 (n * 10 + digit_value x) xs)
        (digits_value_after 10 (n * 10 + digit_value z) ys)) same_digit)

-- a text without `-`
pub signed_plain : (text : List ℕ) → ((rest : List ℕ) → text ≢ 45 ∷ rest) → signed_in text ≡ not_below_zero_in text
unfolding signed_in number_in
signed_plain [] none = refl
signed_plain (c ∷ cs) none = by (c == 45) refl
  where
    by : (b : Bool) → (c == 45) ≡ b →
        (if b then below_zero_in cs else not_below_zero_in (c ∷ cs)) ≡ not_below_zero_in (c ∷ cs)
    by true is = let same : c ≡ 45 = grind arith in absurd (none cs (ap (λ d. d ∷ cs) same))
    by false is = refl
