-- Numbers and bytes as the files of plays have them. (This project's own.)
use Rattle.std.specs.Prelude.{ℕ, nat_le, ◌==◌, codes, Bool, true, false, not, ◌&&◌, if◌then◌else◌, List, [], ◌∷◌, ℤ}
use Rattle.std.specs.Prelude.{pos, neg_ℤ, Result, Ok, Err}
use Rattle.std.specs.List.{list_all}
use Rattle.std.specs.Char.{is_ascii_digit}
use Rattle.std.specs.Str.{bytes_eq}
use Rattle.std.specs.Str.Parse.{digits_value}
use Rattle.hex.specs.declared.error.FromHexError.{FromHexError}
use Rattle.hex.specs.Hex.{decode_of}
use Rattle.script_grammar.specs.Faults.{Answer, bad, said}

-- whether a text isn't empty, and no 0 stands before others
abbrev pub starts_as_number : List ℕ → Bool
starts_as_number [] = false
starts_as_number (digit ∷ []) = true
starts_as_number (first ∷ second ∷ more) = not (first == 48)

-- a decimal number without a sign and without a 0 before another digit
abbrev pub is_numeral : List ℕ → Bool
is_numeral text = starts_as_number text && list_all is_ascii_digit text

abbrev pub within : ℕ → ℕ → ℕ → Answer ℕ
within least most n = if nat_le least n && nat_le n most then Ok n else bad

-- a number in a range
unfoldable pub number_in : ℕ → ℕ → List ℕ → Answer ℕ
number_in least most text = if is_numeral text then within least most (digits_value 10 text) else bad

-- a number of 64, of 32 and of 16 bits
abbrev pub wide_in : List ℕ → Answer ℕ
wide_in = number_in 0 18446744073709551615

abbrev pub narrow_in : List ℕ → Answer ℕ
narrow_in = number_in 0 4294967295

abbrev pub short_in : List ℕ → Answer ℕ
short_in = number_in 0 65535

abbrev pub below_zero_in : List ℕ → Answer ℤ
below_zero_in digits = said (λ n. neg_ℤ (pos n)) (number_in 0 9223372036854775808 digits)

abbrev pub not_below_zero_in : List ℕ → Answer ℤ
not_below_zero_in digits = said pos (number_in 0 9223372036854775807 digits)

-- a number of 64 bits, with a `-` before it or not
unfoldable pub signed_in : List ℕ → Answer ℤ
signed_in [] = bad
signed_in (c ∷ cs) = if c == 45 then below_zero_in cs else not_below_zero_in (c ∷ cs)

-- what hex digits were read as
abbrev pub hex_bytes : Result (List ℕ) FromHexError → Answer (List ℕ)
hex_bytes (Ok bytes) = Ok bytes
hex_bytes (Err e) = bad

-- bytes as two hex digits each, in either case; no bytes are `-`
unfoldable pub bytes_in : List ℕ → Answer (List ℕ)
bytes_in [] = bad
bytes_in (c ∷ cs) = if bytes_eq (c ∷ cs) (codes "-") then Ok [] else hex_bytes (decode_of (c ∷ cs))
