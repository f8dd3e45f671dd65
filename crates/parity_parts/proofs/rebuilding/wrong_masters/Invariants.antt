-- The wrong ones of the parts so far.
use Rattle.std.proofs.Common.{◌≡◌, take}
use Rattle.parity_parts.specs.Rebuilding.{wrong_masters}
use Rattle.parity_parts.proofs.rebuilding.wrong_masters.Given as goal

abbrev pub invariant-loop-part : goal.invariant-loop-part
invariant-loop-part l = l.wrong ≡ wrong_masters l.sizes.f l.text (take l.part-index l.parts)
