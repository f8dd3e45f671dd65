-- Names in order: of one letter, by their numbers, which `NumberLaws` compares by length and digits.
use Rattle.std.proofs.Common.{rules, ◌≡◌, ◌≢◌, ◌<◌, ◌≤◌, ◌+◌, ℕ, Bool, true, false, ◌&&◌, ◌||◌, nat_eq, nat_lt, ◌==◌}
use Rattle.std.proofs.Common.{List, [], ◌∷◌, length, get_or, drop, map, refl, sym, ◌∙◌, ap, subst, arith}
use Rattle.std.specs.Borrow.{Bor}
use Rattle.std.specs.Cmp.Lexicographic.{slice_partial_cmp}
use Rattle.std.specs.List.{list_all}
use Rattle.std.specs.Char.{is_ascii_digit}
use Rattle.std.specs.Ordering.{nat_cmp, is_lt, is_some_and}
use Rattle.std.specs.Prelude.{Some}
use Rattle.std.specs.Str.Parse.{digits_value}
use Rattle.std.proofs.lemmas.Cmp.{same_from_slice_cmp_tested}
use Rattle.std.proofs.lemmas.Bool.Decides.{nat_tests}
use Rattle.std.proofs.lemmas.Bool.{lt-ltb, le-ltb, ltb-true, ltb-false}
use Rattle.script_grammar.specs.Frames.{signer_in}
use Rattle.script_grammar.specs.Lines.{texts}
use Rattle.script_grammar.specs.Names.{is_name, comes_before, names_rise}
use Rattle.script_grammar.specs.Numbers.{is_numeral, starts_as_number}
use Rattle.script_grammar.proofs.NumberLaws.{own, lower, lower_is_smaller, shorter_is_smaller}

second_true : (a b : Bool) → a && b ≡ true → b ≡ true
second_true true b h = h
second_true false b h = absurd (cc)

number_of_name : (c : ℕ) (x : List ℕ) → is_name (c ∷ x) ≡ true → is_numeral x ≡ true
number_of_name c x is = second_true ((c == 109) || (c == 112) || (c == 115)) (is_numeral x) is

digits_of_name : (c : ℕ) (x : List ℕ) → is_name (c ∷ x) ≡ true → list_all is_ascii_digit x ≡ true
digits_of_name c x is = second_true (starts_as_number x) _ (number_of_name c x is)

same_letter : (c : ℕ) (x y : List ℕ) → comes_before (c ∷ x) (c ∷ y) ≡ nat_lt (digits_value 10 x) (digits_value 10 y)
same_letter c x y =
    let none : nat_lt c c ≡ false = grind arith in
    let same : (c == c) ≡ true = grind arith in
    ap (λ b. b || ((c == c) && nat_lt (digits_value 10 x) (digits_value 10 y))) none
    ∙ ap (λ b. b && nat_lt (digits_value 10 x) (digits_value 10 y)) same

-- another letter decides
pub letters_decide : (a b : List ℕ) → is_name a ≡ true → is_name b ≡ true → get_or a 0 0 ≢ get_or b 0 0 →
    nat_lt (get_or a 0 0) (get_or b 0 0) ≡ comes_before a b
letters_decide [] b is it differ = absurd (cc)
letters_decide (c ∷ x) [] is it differ = absurd (cc)
letters_decide (c ∷ x) (d ∷ y) is it differ = by (nat_lt c d) refl
  where
    by : (b : Bool) → nat_lt c d ≡ b → b ≡ b || ((c == d) && nat_lt (digits_value 10 x) (digits_value 10 y))
    by true less = refl
    by false less = let other : (c == d) ≡ false = grind arith in
        sym (ap (λ b. b && nat_lt (digits_value 10 x) (digits_value 10 y)) other)

-- of one letter another length decides
pub lengths_decide : (a b : List ℕ) → is_name a ≡ true → is_name b ≡ true → get_or a 0 0 ≡ get_or b 0 0 →
    length a ≢ length b
    → nat_lt (length a) (length b) ≡ comes_before a b
lengths_decide [] b is it same differ = absurd (cc)
lengths_decide (c ∷ x) [] is it same differ = absurd (cc)
lengths_decide (c ∷ x) (d ∷ y) is it same differ =
    by (nat_lt (length x) (length y)) refl ∙ ap (λ e. comes_before (c ∷ x) (e ∷ y)) same
  where
    mine : is_numeral x ≡ true
    mine = number_of_name c x is

    its : is_numeral y ≡ true
    its = number_of_name d y it

    by : (b : Bool) → nat_lt (length x) (length y) ≡ b →
        nat_lt (length (c ∷ x)) (length (d ∷ y)) ≡ comes_before (c ∷ x) (c ∷ y)
    by true less =
        let fewer : length x < length y = ltb-true (length x) (length y) less in
        lt-ltb (length (c ∷ x)) (length (d ∷ y)) (omega arith)
        ∙ sym (same_letter c x y ∙ lt-ltb (digits_value 10 x) (digits_value 10 y)
        (shorter_is_smaller x y mine its fewer))
    by false less =
        let no_fewer : length y ≤ length x = ltb-false (length x) (length y) less in
        let more : length y < length x = omega arith in
        let greater : digits_value 10 y < digits_value 10 x = shorter_is_smaller y x its mine more in
        le-ltb (length (c ∷ x)) (length (d ∷ y)) (omega arith)
        ∙ sym (same_letter c x y ∙ le-ltb (digits_value 10 x) (digits_value 10 y) (omega arith))

-- of one letter and length the first digit that differs decides
pub digits_decide : (a b : List ℕ) (r : Bool) → is_name a ≡ true → is_name b ≡ true → get_or a 0 0 ≡ get_or b 0 0 →
    length a ≡ length b
    → r ≡ is_some_and is_lt (slice_partial_cmp (λ x y. Some (nat_cmp x y)) a b) → r ≡ comes_before a b
digits_decide [] b r is it same long answer = absurd (cc)
digits_decide (c ∷ x) [] r is it same long answer = absurd (cc)
digits_decide (c ∷ x) (d ∷ y) r is it same long answer =
    same_from_slice_cmp_tested nat_cmp is_lt lower refl (λ _ _. refl) (λ _ _. refl)
    (λ x y xs ys o h. grind (arith, nat_tests)) (c ∷ x) (d ∷ y) r answer
    ∙ (ap (λ e. lower (c ∷ x) (e ∷ y)) (sym same)
    ∙ (first_same ∙ (lower_is_smaller 0 x y (own.to x (digits_of_name c x is))
    (own.to y (digits_of_name d y it)) (omega arith)
    ∙ (sym (same_letter c x y) ∙ ap (λ e. comes_before (c ∷ x) (e ∷ y)) same))))
  where
    first_same : lower (c ∷ x) (c ∷ y) ≡ lower x y
    first_same =
        let none : nat_lt c c ≡ false = grind arith in
        let one : nat_eq c c ≡ true = grind arith in
        ap (λ b. b || (nat_eq c c && lower x y)) none ∙ ap (λ b. b && lower x y) one

-- fewer than two names rise
pub few_rise : (frames : List (Bor (List ℕ))) → length frames < 2 → true ≡ names_rise (map signer_in (texts frames))
few_rise [] few = refl
few_rise (a ∷ []) few = refl
few_rise (a ∷ b ∷ more) few = absurd (omega arith)
