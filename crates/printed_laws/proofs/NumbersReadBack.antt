-- Numbers and bytes that are written and read again.
use Rattle.std.proofs.Common.{◌≡◌, ℕ, ℤ, pos, negsuc, suc, ◌*◌, ◌<◌, ◌≤◌, ◌^◌, true, false, cond, List, [], ◌∷◌, Ok}
use Rattle.std.proofs.Common.{length, get_or, refl, ◌∙◌, ap, arith}
use Rattle.std.specs.Prelude.{codes, decimal, FitsSigned, neg_ℤ}
use Rattle.std.specs.Fmt.{signed_decimal}
use Rattle.std.specs.Int.{w64}
use Rattle.std.specs.List.{list_all}
use Rattle.std.specs.Char.{is_ascii_digit}
use Rattle.std.specs.Str.{bytes_eq}
use Rattle.std.proofs.lemmas.Bool.{and_parts, false_from_ne_true}
use Rattle.std.proofs.lemmas.Fmt.{decimal_nonempty}
use Rattle.std.proofs.lemmas.Slice.Eq.{bytes_eq-Decides}
use Rattle.hex.specs.Hex.{encode_lower, decode_of, lower_digits}
use Rattle.hex.proofs.HexLemmas.{decode_of-encode_lower, length-encode_with}
use Rattle.script_grammar.specs.Faults.{said}
use Rattle.script_grammar.specs.Numbers.{number_in, wide_in, narrow_in, short_in, signed_in, hex_bytes, bytes_in}
use Rattle.script_grammar.proofs.NumberLaws.{signed_plain}
use Rattle.script_grammar.proofs.Worded.{number_between, digits_all}
use Rattle.run_lines.specs.Texts.{hex_text}

number_back : (most n : ℕ) → n ≤ most → n < 2 ^ 64 → number_in 0 most (decimal n) ≡ Ok n
number_back most n low small = number_between 0 most n (omega arith) low small

pub wide_back : (n : ℕ) → n < 2 ^ 64 → wide_in (decimal n) ≡ Ok n
wide_back n small = number_back 18446744073709551615 n (omega arith) small

pub narrow_back : (n : ℕ) → n < 2 ^ 32 → narrow_in (decimal n) ≡ Ok n
narrow_back n small = number_back 4294967295 n (omega arith) (omega arith)

pub short_back : (n : ℕ) → n < 2 ^ 16 → short_in (decimal n) ≡ Ok n
short_back n small = number_back 65535 n (omega arith) (omega arith)

first_digit : (ds : List ℕ) → 0 < length ds → list_all is_ascii_digit ds ≡ true →
    (48 ≤ get_or ds 0 0) × (get_or ds 0 0 ≤ 57)
first_digit [] some all = absurd (omega arith)
first_digit (d ∷ ds) some all =
    let digit = and_parts (is_ascii_digit d) (list_all is_ascii_digit ds) all in
    let is : is_ascii_digit d ≡ true = digit.0 in
    (grind arith, grind arith)

-- the first digit of a number
pub first_is_digit : (n : ℕ) → n < 2 ^ 64 → (48 ≤ get_or (decimal n) 0 0) × (get_or (decimal n) 0 0 ≤ 57)
first_is_digit n small = first_digit (decimal n) (decimal_nonempty n small) (digits_all n small)

pub signed_back : (z : ℤ) → FitsSigned w64 z → signed_in (signed_decimal z) ≡ Ok z
unfolding signed_in
signed_back (pos n) fits =
    let small : n < 2 ^ 63 = omega (arith, fits) in
    signed_plain (decimal n) (λ rest is.
    let head : get_or (decimal n) 0 0 ≡ 45 = ap (λ (ds : List ℕ). get_or ds 0 0) is in
    let digit = first_is_digit n (omega arith) in
    omega (arith, head, digit.0))
    ∙ ap (said pos) (number_back 9223372036854775807 n (omega arith) (omega arith))
signed_back (negsuc n) fits =
    let small : n < 2 ^ 63 = omega (arith, fits) in
    ap (said (λ m. neg_ℤ (pos m))) (number_back 9223372036854775808 (suc n) (omega arith) (omega arith))

not_a_dash : (a b : ℕ) (more : List ℕ) → bytes_eq (a ∷ b ∷ more) (codes "-") ≡ false
not_a_dash a b more = false_from_ne_true (bytes_eq (a ∷ b ∷ more) (codes "-")) (λ yes.
    let same : a ∷ b ∷ more ≡ codes "-" = (bytes_eq-Decides (a ∷ b ∷ more) (codes "-")).0 yes in
    let sizes : suc (suc (length more)) ≡ 1 = ap length same in
    omega (arith, sizes))

hex_written : (bytes text : List ℕ) → decode_of text ≡ Ok bytes → 2 ≤ length text → bytes_in text ≡ Ok bytes
unfolding bytes_in
hex_written bytes [] read some = absurd (omega arith)
hex_written bytes (x ∷ []) read some = absurd (omega arith)
hex_written bytes (x ∷ y ∷ more) read some =
    ap (λ t. cond t (Ok []) (hex_bytes (decode_of (x ∷ y ∷ more)))) (not_a_dash x y more) ∙ ap hex_bytes read

pub bytes_back : (bytes : List ℕ) → ((i : ℕ) → get_or bytes i 0 < 256) → bytes_in (hex_text bytes) ≡ Ok bytes
unfolding bytes_in
bytes_back [] within = refl
bytes_back (b ∷ bs) within =
    let size : length (encode_lower (b ∷ bs)) ≡ 2 * length (b ∷ bs) = length-encode_with lower_digits (b ∷ bs) in
    hex_written (b ∷ bs) (encode_lower (b ∷ bs)) (decode_of-encode_lower (b ∷ bs) within) (omega (arith, size))
