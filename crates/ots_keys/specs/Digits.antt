-- Bytes as digits (RFC 8554, section 3.1.3), and the checksum (section 4.4).
use Rattle.std.specs.Prelude.{ℕ, zero, suc, ◌+◌, ◌-◌, ◌*◌, ◌/◌, ◌%◌, ◌^◌, List, ◌++◌, bit_and, slice_index}
use Rattle.wire_parts.specs.Fields.{u16_bytes}
use Rattle.ots_keys.specs.declared.parameters.Ots.{Ots}
use Rattle.ots_keys.specs.Parameters.{width, checksum_shift, top_digit}

-- coef(S, i, w): digit i of s, of w bits (section 3.1.3). `/ 2 ^ k` is the RFC's `>> k`
unfoldable pub coef : List ℕ → ℕ → ℕ → ℕ
coef s i w = bit_and (2 ^ w - 1) (slice_index s (i * w / 8) / 2 ^ (8 - (w * (i % (8 / w)) + w)))

-- f 0 + .. + f (n - 1)
abbrev pub sum_below : (ℕ → ℕ) → ℕ → ℕ
sum_below f zero = 0
sum_below f (suc n) = sum_below f n + f n

-- how far digit i of s is below the greatest digit
abbrev pub missing : Ots → List ℕ → ℕ → ℕ
missing ots s i = top_digit ots - coef s i (width ots)

-- Cksm(S), of 16 bits (section 4.4)
unfoldable pub checksum : Ots → List ℕ → ℕ
checksum ots s = (sum_below (missing ots s) (256 / width ots) * 2 ^ checksum_shift ots) % 2 ^ 16

-- digit i of a hash with its checksum behind it: coef(Q || Cksm(Q), i, w) (section 4.5)
unfoldable pub digit : Ots → List ℕ → ℕ → ℕ
digit ots hash i = coef (hash ++ u16_bytes (checksum ots hash)) i (width ots)
