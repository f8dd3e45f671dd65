use Rattle.std.proofs.Common.{◌≡◌, map, take}
use Rattle.protocol_rules.specs.Preorder.{requests_said}
use Rattle.preorder.proofs.Repeats.{key_of}
use Rattle.preorder.proofs.again.requested_in.Given as goal

-- those of the bodies so far are there
abbrev pub invariant-loop-body : goal.invariant-loop-body
invariant-loop-body l = l.keys.items ≡ map key_of (requests_said (take l.body-index l.bodies))
