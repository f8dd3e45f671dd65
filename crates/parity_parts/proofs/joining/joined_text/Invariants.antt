-- The bytes of the places so far.
use Rattle.std.proofs.Common.{◌≡◌, map}
use Rattle.std.specs.List.{range_with_len}
use Rattle.parity_parts.specs.Parts.{joined_byte}
use Rattle.parity_parts.proofs.joining.joined_text.Given as goal

abbrev pub invariant-loop-place : goal.invariant-loop-place
invariant-loop-place l = l.text.items ≡ map (joined_byte l.step l.parts) (range_with_len 0 l.place)
