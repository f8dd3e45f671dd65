-- What a proxy reads of its points, and which readings it has to say. (This project's own.)
use Rattle.std.specs.Prelude.{ℕ, suc, ◌+◌, Bool, true, false, ◌&&◌, not, nat_eq, if◌then◌else◌, List, [], ◌∷◌, ◌++◌}
use Rattle.std.specs.Prelude.{length, filter, map, Option, Some, None, slice_get, slice_set, ℤ}
use Rattle.std.specs.Option.{option_and_then}
use Rattle.std.specs.Ordering.{int_eq}
use Rattle.std.specs.Prelude.{int_le, pos, negsuc, ◌-◌, ◌^◌}
use Rattle.std.specs.List.{flat_map, range_with_len}
use Rattle.message_types.specs.declared.updates.Op.{Op}
use Rattle.message_types.specs.declared.updates.Op.TheVariants as op
use Rattle.message_types.specs.declared.updates.Update.{Update}
use Rattle.point_table.specs.declared.point.Point.{Point}
use Rattle.point_table.specs.Point.{scaled}
use Rattle.modbus_forms.specs.declared.request.RequestPdu.{RequestPdu}
use Rattle.field_device.specs.Places.{Places}
use Rattle.field_device.specs.Table.{reply_pdu}
use Rattle.field_proxy.specs.Exchanges.{read_pdu, raw_in}

-- the requests of a poll: one for each of the client's own points, in the order of their numbers
abbrev pub poll_requests : ℕ → List Point → List RequestPdu
poll_requests client points = map (λ p. read_pdu p.area p.place) (filter (λ p. nat_eq p.proxy client) points)

-- a value as an update can hold it, in 64 bits
abbrev pub is_i64 : ℤ → Bool
is_i64 z = int_le (negsuc (2 ^ 63 - 1)) z && int_le z (pos (2 ^ 63 - 1))

abbrev pub in_64_bits : ℤ → Option ℤ
in_64_bits z = if is_i64 z then Some z else None

-- the value that a device gives for a point: what its reply to the point's request stands for. There is none where the
-- device has no such place, or where 64 bits can't hold the value
unfoldable pub given : Places → Point → Option ℤ
given d p = option_and_then (λ raw. in_64_bits (scaled p raw)) (raw_in (reply_pdu d (read_pdu p.area p.place)))

-- whether this is the value last said
abbrev pub was_said : Option ℤ → ℤ → Bool
was_said None v = false
was_said (Some last) v = int_eq last v

-- the reading of a point that is to be said, if any: of one of the client's own points, whose value is another than the
-- one last said for it
abbrev pub reading_of : ℕ → ℕ → Point → Option ℤ → Option ℤ → List Op
reading_of client number p None last = []
reading_of client number p (Some v) last = if nat_eq p.proxy client
    && not (was_said last v) then op.Reading number v ∷ [] else []

-- of the point with a number
abbrev pub reading_at : Places → ℕ → List Point → (ℕ → Option ℤ) → ℕ → List Op
reading_at d client points last number =
    elim (slice_get points number) [ None ↦ [] | Some p ↦ reading_of client number p (given d p) (last number) ]

-- the readings due, in the order of the points' numbers
unfoldable pub readings : Places → ℕ → List Point → (ℕ → Option ℤ) → List Op
readings d client points last = flat_map (reading_at d client points last) (range_with_len 0 (length points))

-- the value last said for a point, where the list has one for each point
unfoldable pub last_in : List (Option ℤ) → ℕ → Option ℤ
last_in lasts number = option_and_then (λ last. last) (slice_get lasts number)

-- what was last said once a reading is, or these readings are
abbrev pub told_one : List (Option ℤ) → Op → List (Option ℤ)
told_one lasts (op.Reading number v) = slice_set lasts number (Some v)
told_one lasts _ = lasts

unfoldable pub told : List (Option ℤ) → List Op → List (Option ℤ)
told lasts [] = lasts
told lasts (o ∷ rest) = told (told_one lasts o) rest

-- a client's updates with these numbers on
unfoldable pub numbered : ℕ → ℕ → List Op → List Update
numbered client t [] = []
numbered client t (o ∷ rest) = record { client = client; t = t; op = o } ∷ numbered client (suc t) rest
