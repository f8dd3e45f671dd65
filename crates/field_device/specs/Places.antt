-- What a field device holds, in the four areas of Modbus V1.1b3, section 4.3. Places count from 0.
use Rattle.std.specs.Prelude.{ℕ, Bool, true, false, not, nat_eq, nat_lt, if◌then◌else◌, List, length, replicate}
use Rattle.std.specs.Prelude.{Option, slice_get, slice_set}
use Rattle.std.specs.Option.{option_map}
use Rattle.point_table.specs.declared.point.Area.{Area}
use Rattle.point_table.specs.declared.point.Area.TheVariants as area
use Rattle.point_table.specs.declared.point.DeviceSizes.{DeviceSizes}

-- bits and 16-bit registers
pub record Places : Type 0 where
  pub coils : List Bool
  pub discrete : List Bool
  pub holding : List ℕ
  pub input : List ℕ

-- a device of these sizes begins with zeros
abbrev pub zeros : DeviceSizes → Places
zeros sizes = record {
  coils = replicate sizes.coils false;
  discrete = replicate sizes.discrete false;
  holding = replicate sizes.holding 0;
  input = replicate sizes.input 0;
}

abbrev pub bit_number : Bool → ℕ
bit_number b = if b then 1 else 0

-- the value at a place, 0 or 1 of a bit
abbrev pub value_at : Places → Area → ℕ → Option ℕ
value_at d area.Coil p = option_map bit_number (slice_get d.coils p)
value_at d area.Discrete p = option_map bit_number (slice_get d.discrete p)
value_at d area.Holding p = slice_get d.holding p
value_at d area.Input p = slice_get d.input p

-- how many places an area has
abbrev pub size_of : Places → Area → ℕ
size_of d area.Coil = length d.coils
size_of d area.Discrete = length d.discrete
size_of d area.Holding = length d.holding
size_of d area.Input = length d.input

-- a bit is set by any value but 0
abbrev pub is_set : ℕ → Bool
is_set value = not (nat_eq value 0)

-- a change in the field
abbrev pub changed : Places → Area → ℕ → ℕ → Places
changed d area.Coil p value = record d { coils = slice_set d.coils p (is_set value) }
changed d area.Discrete p value = record d { discrete = slice_set d.discrete p (is_set value) }
changed d area.Holding p value = record d { holding = slice_set d.holding p value }
changed d area.Input p value = record d { input = slice_set d.input p value }
