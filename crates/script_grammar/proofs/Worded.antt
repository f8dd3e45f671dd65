-- Numbers, and words with one space between each two, that are written and read again.
use Rattle.std.proofs.Common.{◌≡◌, ℕ, ◌<◌, true, not, List, [], ◌∷◌, length, get_or, refl, ap, arith, zero, suc, ◌^◌}
use Rattle.std.proofs.Common.{Bool, cond, Ok, ◌≤◌, nat_le, ◌∙◌, ◌++◌, ◌&&◌, nat_lt, ◌==◌}
use Rattle.std.proofs.lemmas.Bool.{ne_eqb, and_from, le-leb, and_parts, ltb-true, lt-ltb, not-true}
use Rattle.std.specs.Prelude.{decimal}
use Rattle.std.proofs.lemmas.Fmt.{decimal_nonempty, first_decimal, decimal_digit, digits_decimal}
use Rattle.std.proofs.lemmas.Fmt.{digits_value-decimal}
use Rattle.std.specs.List.{list_all, slice_split, onto_first}
use Rattle.std.specs.Char.{is_ascii_digit}
use Rattle.std.specs.Str.Parse.{digits_value}
use Rattle.std.specs.Str.{IsAscii}
use Rattle.script_grammar.specs.Numbers.{starts_as_number, is_numeral, within, number_in}
use Rattle.script_grammar.proofs.NumberLaws.{own}
use Rattle.script_grammar.specs.Faults.{Answer, bad}
use Rattle.hex.specs.Hex.{lower_digits}

starts : (ds : List ℕ) → 0 < length ds → (1 < length ds → 48 < get_or ds 0 0) → starts_as_number ds ≡ true
starts [] some high = absurd (omega arith)
starts (d ∷ []) some high = refl
starts (d ∷ e ∷ ds) some high =
    let more : 48 < d = high (omega arith) in
    ap not (ne_eqb d 48 (λ (is : d ≡ 48). omega arith))

starts_as_one : (n : ℕ) → n < 2 ^ 64 → starts_as_number (decimal n) ≡ true
starts_as_one zero small = ap starts_as_number (decimal_digit 0 (omega arith))
starts_as_one (suc n) small = starts (decimal (suc n)) (decimal_nonempty (suc n) small)
    (λ many. first_decimal (suc n) (omega arith) small)

pub digits_all : (n : ℕ) → n < 2 ^ 64 → list_all is_ascii_digit (decimal n) ≡ true
digits_all n small = digits_decimal own n small

pub is_one : (n : ℕ) → n < 2 ^ 64 → is_numeral (decimal n) ≡ true
is_one n small = and_from (starts_as_number (decimal n)) (list_all is_ascii_digit (decimal n))
    (starts_as_one n small) (digits_all n small)

pub value_is : (n : ℕ) → n < 2 ^ 64 → digits_value 10 (decimal n) ≡ n
value_is n small = digits_value-decimal own n small

ranged : ℕ → Bool → Answer ℕ
ranged n b = cond b (Ok n) bad

pub number_between : (least most n : ℕ) → least ≤ n → n ≤ most → n < 2 ^ 64 → number_in least most (decimal n) ≡ Ok n
unfolding number_in ranged
number_between least most n low high small =
    ap (λ b. cond b (within least most (digits_value 10 (decimal n))) bad) (is_one n small)
    ∙ ap (within least most) (digits_value-decimal own n small)
    ∙ ap (ranged n) (and_from (nat_le least n) (nat_le n most) (le-leb least n low) (le-leb n most high))

pub all_of_both : (p : ℕ → Bool) (v w : List ℕ) → list_all p v ≡ true → list_all p w ≡ true → list_all p (v ++ w) ≡ true
all_of_both p [] w all rest = rest
all_of_both p (b ∷ v) w all rest =
    let parts = and_parts (p b) (list_all p v) all in
    and_from (p b) (list_all p (v ++ w)) parts.0 (all_of_both p v w parts.1 rest)

pub all_at : (p : ℕ → Bool) (xs : List ℕ) (k : ℕ) → list_all p xs ≡ true → k < length xs → p (get_or xs k 0) ≡ true
all_at p [] k all below = absurd (omega arith)
all_at p (x ∷ xs) zero all below = (and_parts (p x) (list_all p xs) all).0
all_at p (x ∷ xs) (suc k) all below = all_at p xs k (and_parts (p x) (list_all p xs) all).1 (omega arith)

-- the first piece ends where the test passes first
pub cut_at : (p : ℕ → Bool) (w : List ℕ) (y : ℕ) (ys : List ℕ) → list_all (λ b. not (p b)) w ≡ true → p y ≡ true →
    slice_split p (w ++ y ∷ ys) ≡ w ∷ slice_split p ys
cut_at p [] y ys none is = ap (λ b. cond b ([] ∷ slice_split p ys) (onto_first y (slice_split p ys))) is
cut_at p (x ∷ w) y ys none is =
    let parts = and_parts (not (p x)) (list_all (λ b. not (p b)) w) none in
    ap (λ b. cond b ([] ∷ slice_split p (w ++ y ∷ ys)) (onto_first x (slice_split p (w ++ y ∷ ys))))
    (not-true (p x) parts.0)
    ∙ ap (onto_first x) (cut_at p w y ys parts.1 is)

pub uncut : (p : ℕ → Bool) (w : List ℕ) → list_all (λ b. not (p b)) w ≡ true → slice_split p w ≡ w ∷ []
uncut p [] none = refl
uncut p (x ∷ w) none =
    let parts = and_parts (not (p x)) (list_all (λ b. not (p b)) w) none in
    ap (λ b. cond b ([] ∷ slice_split p w) (onto_first x (slice_split p w))) (not-true (p x) parts.0)
    ∙ ap (onto_first x) (uncut p w parts.1)

abbrev pub is_word_byte : ℕ → Bool
is_word_byte b = nat_lt 32 b && nat_lt b 128

abbrev pub is_line_byte : ℕ → Bool
is_line_byte b = nat_lt 31 b && nat_lt b 128

abbrev pub is_word : List ℕ → Bool
is_word w = list_all is_word_byte w

pub no_space : (b : ℕ) → is_word_byte b ≡ true → not (b == 32) ≡ true
no_space b is =
    let above : 32 < b = ltb-true 32 b (and_parts (nat_lt 32 b) (nat_lt b 128) is).0 in
    ap not (ne_eqb b 32 (λ (same : b ≡ 32). omega arith))

pub of_line : (b : ℕ) → is_word_byte b ≡ true → is_line_byte b ≡ true
of_line b is =
    let parts = and_parts (nat_lt 32 b) (nat_lt b 128) is in
    let above : 32 < b = ltb-true 32 b parts.0 in
    and_from (nat_lt 31 b) (nat_lt b 128) (lt-ltb 31 b (omega arith)) parts.1

pub no_feed : (b : ℕ) → is_line_byte b ≡ true → not (b == 10) ≡ true
no_feed b is =
    let above : 31 < b = ltb-true 31 b (and_parts (nat_lt 31 b) (nat_lt b 128) is).0 in
    ap not (ne_eqb b 10 (λ (same : b ≡ 10). omega arith))

abbrev pub are_words : List (List ℕ) → Bool
are_words ws = list_all is_word ws

pub ascii : (bs : List ℕ) → list_all is_line_byte bs ≡ true → IsAscii bs
ascii [] all i = omega arith
ascii (b ∷ bs) all zero =
    ltb-true b 128 (and_parts (nat_lt 31 b) (nat_lt b 128)
    (and_parts (is_line_byte b) (list_all is_line_byte bs) all).0).1
ascii (b ∷ bs) all (suc i) = ascii bs (and_parts (is_line_byte b) (list_all is_line_byte bs) all).1 i

pub digit_word : (k : ℕ) → k < 16 → is_word_byte (get_or lower_digits k 0) ≡ true
digit_word k few = all_at is_word_byte lower_digits k refl few
