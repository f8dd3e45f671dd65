-- Points: what a place of each area can hold, what a raw value stands for, and which points a scenario may give. (Areas
-- and their values after Modbus V1.1b3, section 4.3; scales, offsets and bounds are this project's own.)
use Rattle.std.specs.Prelude.{◌≡◌, ℕ, suc, zero, Bool, true, false, ◌&&◌, if◌then◌else◌, Option, Some, None, ℤ, pos}
use Rattle.std.specs.Prelude.{◌+ℤ◌, ◌*ℤ◌, ◌≤ℤ◌, int_le}
use Rattle.std.specs.Ordering.{int_eq}
use Rattle.point_table.specs.declared.point.Area.{Area}
use Rattle.point_table.specs.declared.point.Area.TheVariants.{Coil, Discrete, Holding, Input}
use Rattle.point_table.specs.declared.point.Point.{Point}

-- the greatest value that a place of an area can hold: a bit or a 16-bit register (Modbus V1.1b3, 4.3)
abbrev pub greatest_raw : Area → ℕ
greatest_raw Coil = 1
greatest_raw Discrete = 1
greatest_raw Holding = 65535
greatest_raw Input = 65535

-- whether a master may write there (Modbus V1.1b3, 4.3)
abbrev pub is_writable : Area → Bool
is_writable Coil = true
is_writable Discrete = false
is_writable Holding = true
is_writable Input = false

-- whether a value lies within a point's low and high, which count as within
abbrev pub is_within : Point → ℤ → Bool
is_within p v = int_le p.low v && int_le v p.high

-- what a raw value stands for (this project's own)
abbrev pub scaled : Point → ℕ → ℤ
scaled p raw = (pos raw *ℤ p.scale) +ℤ p.offset

-- the first of n numbers from `first` on that passes a test
abbrev pub first_that : (ℕ → Bool) → ℕ → ℕ → Option ℕ
first_that p first zero = None
first_that p first (suc n) = if p first then Some first else first_that p (suc first) n

-- the raw value that stands for a value within the point's bounds: 0 or 1 in an area of bits, else at
-- most 65535
unfoldable pub raw_of : Point → ℤ → Option ℕ
raw_of p v = if is_within p v then first_that (λ raw. int_eq (scaled p raw) v) 0 (suc (greatest_raw p.area)) else None

-- a scale is 1 or more, so no two raw values stand for one value
pub record HasScale (p : Point) : Type 0 where
  pub scale : pos 1 ≤ℤ p.scale

-- a point as a scenario may give it (this project's own limits)
pub record IsUsable (p : Point) : Type 0 where
  pub scale_low : pos 1 ≤ℤ p.scale
  pub scale_high : p.scale ≤ℤ pos 1000000
  pub bounds : p.low ≤ℤ p.high
  pub start : is_within p p.start ≡ true
