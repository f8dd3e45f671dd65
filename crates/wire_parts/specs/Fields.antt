-- How a number stands in bytes. All of this project's formats are big-endian, as are those that it
-- takes from elsewhere: RFC 8554 (section 3.1, u8str to u32str) and Modbus V1.1b3 (section 4.2).
-- `big_bytes n x` is the lowest n bytes of x, the highest of them first.
use Rattle.std.specs.Prelude.{ℕ, ℤ, List, [], ◌∷◌}
use Rattle.std.specs.Int.{w64, cast_unsigned}
use Rattle.byteorder.specs.Endian.{big_bytes, big_number}

-- the one byte of an 8-bit field
abbrev pub u8_bytes : ℕ → List ℕ
u8_bytes x = x ∷ []

-- the 2 bytes of a 16-bit field
unfoldable pub u16_bytes : ℕ → List ℕ
u16_bytes x = big_bytes 2 x

-- the 4 bytes of a 32-bit field
unfoldable pub u32_bytes : ℕ → List ℕ
u32_bytes x = big_bytes 4 x

-- the 8 bytes of a 64-bit field
unfoldable pub u64_bytes : ℕ → List ℕ
u64_bytes x = big_bytes 8 x

-- the 8 bytes of a signed 64-bit field, which holds the number's two's complement
abbrev pub i64_bytes : ℤ → List ℕ
i64_bytes z = u64_bytes (cast_unsigned w64 z)

-- the 16-bit field that stands in the first 2 of these bytes
unfoldable pub u16_at : List ℕ → ℕ
u16_at bytes = big_number 2 bytes
