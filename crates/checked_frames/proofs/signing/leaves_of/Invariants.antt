use Rattle.std.proofs.Common.{◌≡◌, map, take}
use Rattle.message_types.specs.Texts.{body_text}
use Rattle.checked_frames.specs.Groups.{leaf_hash}
use Rattle.checked_frames.proofs.signing.leaves_of.Given as goal

abbrev pub invariant-loop-body : goal.invariant-loop-body
invariant-loop-body l = l.leaves ≡ map (λ b. leaf_hash (body_text b)) (take l.body-index l.bodies)
