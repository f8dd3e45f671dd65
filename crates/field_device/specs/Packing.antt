-- How bits and registers stand in the bytes of requests and replies.
use Rattle.std.specs.Prelude.{ℕ, ◌+◌, ◌*◌, ◌/◌, ◌%◌, Bool, nat_eq, List, [], ◌∷◌, ◌++◌, length, take, drop, map}
use Rattle.std.specs.Prelude.{slice_index}
use Rattle.std.specs.List.{flat_map, range_with_len}
use Rattle.std.specs.Int.{bit_at}
use Rattle.wire_parts.specs.Fields.{u16_bytes, u16_at}
use Rattle.field_device.specs.Places.{bit_number}

-- up to eight bits, the first as the lowest of the byte (V1.1b3, section 6.1); bits that lack are 0
abbrev pub byte_of : List Bool → ℕ
byte_of [] = 0
byte_of (b ∷ bits) = bit_number b + 2 * byte_of bits

-- the bits number 8k to 8k + 7
abbrev pub eight_from : List Bool → ℕ → List Bool
eight_from bits k = take 8 (drop (8 * k) bits)

-- how many bytes hold so many bits
abbrev pub byte_count : ℕ → ℕ
byte_count n = (n + 7) / 8

-- bits in bytes
unfoldable pub packed : List Bool → List ℕ
packed bits = map (λ k. byte_of (eight_from bits k)) (range_with_len 0 (byte_count (length bits)))

-- bit number i of bytes
abbrev pub bit_in : List ℕ → ℕ → Bool
bit_in bytes i = nat_eq (bit_at (slice_index bytes (i / 8)) (i % 8)) 1

-- the first n bits of bytes
unfoldable pub bits_in : ℕ → List ℕ → List Bool
bits_in n bytes = map (bit_in bytes) (range_with_len 0 n)

-- registers in bytes, two each, the higher first (V1.1b3, section 4.2)
unfoldable pub register_bytes : List ℕ → List ℕ
register_bytes registers = flat_map u16_bytes registers

-- register number i of bytes
abbrev pub register_in : List ℕ → ℕ → ℕ
register_in bytes i = u16_at (drop (2 * i) bytes)

-- the first n registers of bytes
unfoldable pub registers_in : ℕ → List ℕ → List ℕ
registers_in n bytes = map (register_in bytes) (range_with_len 0 n)

-- values written over those from a place on
abbrev pub overwritten : {X : Type 0} → List X → ℕ → List X → List X
overwritten list place values = take place list ++ values ++ drop (place + length values) list
