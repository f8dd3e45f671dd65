-- The four LM-OTS parameter sets of RFC 8554, section 4.1, table 1: SHA-256, so that n is 32, with
-- digits of 1, 2, 4 or 8 bits.
use Rattle.std.specs.Prelude.{ℕ, ◌+◌, ◌-◌, ◌*◌, ◌^◌}
use Rattle.ots_keys.specs.declared.parameters.Ots.{Ots}
use Rattle.ots_keys.specs.declared.parameters.Ots.TheVariants.{W1, W2, W4, W8}

-- the type code
abbrev pub type_code : Ots → ℕ
type_code W1 = 1
type_code W2 = 2
type_code W4 = 3
type_code W8 = 4

-- w: the bits of a digit
abbrev pub width : Ots → ℕ
width W1 = 1
width W2 = 2
width W4 = 4
width W8 = 8

-- p: the number of digits, which is that of the chains
abbrev pub chains : Ots → ℕ
chains W1 = 265
chains W2 = 133
chains W4 = 67
chains W8 = 34

-- ls: by how many bits the checksum is shifted to the left
abbrev pub checksum_shift : Ots → ℕ
checksum_shift W1 = 7
checksum_shift W2 = 6
checksum_shift W4 = 4
checksum_shift W8 = 0

-- the greatest digit, which is the number of steps in a whole chain (section 4.3)
abbrev pub top_digit : Ots → ℕ
top_digit ots = 2 ^ width ots - 1

-- the bytes of a signature: the type code, C and an element for each chain (section 4.5)
abbrev pub signature_len : Ots → ℕ
signature_len ots = 4 + 32 * (chains ots + 1)
