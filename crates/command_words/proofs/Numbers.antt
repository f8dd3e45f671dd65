-- A number that is written in digits is a word that is no flag, is in the ranges that it lies in, and is read as
-- itself.
use Rattle.std.proofs.Common.{◌≡◌, ◌∙◌, ◌<◌, ◌≤◌, ◌^◌, ◌==◌, ℕ, Bool, true, false, refl, ap, [], ◌∷◌, Some, drop}
use Rattle.std.proofs.Common.{cond, arith}
use Rattle.std.specs.Prelude.{decimal}
use Rattle.std.specs.Str.Parse.{IsNumeral, digits_value, without_leading_plus}
use Rattle.std.proofs.lemmas.Bool.{ne_eqb}
use Rattle.std.proofs.lemmas.Fmt.{decimal_is_IsNumeral}
use Rattle.std.proofs.lemmas.Str.Parse.{digit_from_value}
use Rattle.clap.specs.Walk.{Text}
use Rattle.clap.specs.ValueTests.{is_unsigned_in}
use Rattle.clap.proofs.ValueTestLemmas.{Accepts-accepts}
use Rattle.clap.specs.declared.builder.value_parser.ValueParser.TheVariants as vp
use Rattle.command_words.specs.Wanted.{IsWhole, number_in}
use Rattle.command_words.proofs.Walks.{IsWord, numeral_is_word}

pub no_plus : (ds : Text) → IsNumeral 10 ds → without_leading_plus ds ≡ ds
no_plus [] h = refl
no_plus (d ∷ ds) h =
    let plus : (d == 43) ≡ false = ne_eqb _ _ (λ e. omega (arith, digit_from_value d h.1.0)) in
    ap (λ (b : Bool). drop (cond b 1 0) (d ∷ ds)) plus

whole_fits : (n : ℕ) → IsWhole n → n < 2 ^ 64
whole_fits n h = omega arith

pub below_whole : (n high : ℕ) → n ≤ high → high ≤ 4294967295 → IsWhole n
below_whole n high below whole = omega arith

written_value : (n : ℕ) → IsWhole n → digits_value 10 (without_leading_plus (decimal n)) ≡ n
written_value n h =
    let numeral = decimal_is_IsNumeral n (whole_fits n h) in
    ap (digits_value 10) (no_plus (decimal n) numeral.0) ∙ numeral.1

pub whole_is_word : (n : ℕ) → IsWhole n → IsWord (decimal n)
whole_is_word n h = numeral_is_word (decimal n) (decimal_is_IsNumeral n (whole_fits n h)).0

pub written_is_in : (low high n : ℕ) → low ≤ n → n ≤ high → IsWhole n → is_unsigned_in low high (decimal n) ≡ true
written_is_in low high n above below h =
    let fits = whole_fits n h in
    let numeral = decimal_is_IsNumeral n fits in
    let value = written_value n h in
    Accepts-accepts false (vp.Unsigned low high) (decimal n)
    (rw (no_plus (decimal n) numeral.0) numeral.0, rw value fits, rw value above, rw value below)

pub whole_is_in : (n : ℕ) → IsWhole n → is_unsigned_in 0 4294967295 (decimal n) ≡ true
whole_is_in n h = written_is_in 0 4294967295 n (omega arith) h h

pub whole_reads : (n : ℕ) → IsWhole n → number_in (decimal n) ≡ Some n
whole_reads n h = rw (whole_is_in n h) (ap Some (written_value n h))
