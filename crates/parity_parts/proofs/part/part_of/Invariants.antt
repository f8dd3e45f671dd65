-- The bytes of the places so far.
use Rattle.std.proofs.Common.{◌≡◌, map}
use Rattle.std.specs.List.{range_with_len}
use Rattle.parity_parts.specs.Parts.{part_byte}
use Rattle.parity_parts.proofs.part.part_of.Given as goal

abbrev pub invariant-loop-place : goal.invariant-loop-place
invariant-loop-place l =
    l.bytes.items ≡ map (part_byte l.sizes.f l.step l.master l.text) (range_with_len 0 l.place)
