-- The numbers of a rule: decimal digits, with a `-` or without, that 64 bits with sign hold. (This project's own.)
use Rattle.std.specs.Prelude.{ℕ, ◌+◌, ◌-◌, ◌*◌, ◌==◌, nat_le, nat_lt, Bool, true, false, not, ◌&&◌, if◌then◌else◌}
use Rattle.std.specs.Prelude.{List, [], ◌∷◌, Option, Some, None, ℤ, pos, neg_ℤ}
use Rattle.std.specs.Option.{option_and_then, option_map}
use Rattle.std.specs.Char.{is_ascii_digit}

-- the number that decimal digits spell, behind those that spell a first one; none where another byte is there
abbrev pub digits_on : ℕ → List ℕ → Option ℕ
digits_on n [] = Some n
digits_on n (d ∷ ds) = if is_ascii_digit d then digits_on (n * 10 + (d - 48)) ds else None

-- a number at most 2^63
abbrev pub at_most_2_63 : ℕ → Option ℕ
at_most_2_63 n = if nat_le n 9223372036854775808 then Some n else None

abbrev pub is_empty : List ℕ → Bool
is_empty [] = true
is_empty (c ∷ cs) = false

-- the number, at most 2^63, that a text of decimal digits spells with no 0 before another digit
unfoldable pub magnitude : List ℕ → Option ℕ
magnitude [] = None
magnitude (d ∷ ds) = if (d == 48) && not (is_empty ds) then None else option_and_then at_most_2_63
    (digits_on 0 (d ∷ ds))

abbrev pub below_2_63 : ℕ → Option ℤ
below_2_63 n = if nat_lt n 9223372036854775808 then Some (pos n) else None

-- the number of 64 bits that a text spells in decimal, behind a `-` or not
abbrev pub number_of : List ℕ → Option ℤ
number_of [] = None
number_of (c ∷ cs) = if c == 45 then option_map (λ n. neg_ℤ (pos n)) (magnitude cs) else option_and_then below_2_63
    (magnitude (c ∷ cs))
