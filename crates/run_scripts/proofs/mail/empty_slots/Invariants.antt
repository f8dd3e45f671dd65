use Rattle.std.proofs.Common.{◌≡◌, [], replicate}
use Rattle.run_scripts.specs.Playing.{slots_of}
use Rattle.run_scripts.proofs.mail.empty_slots.Given as goal

-- so many slots are there, and all are empty
abbrev pub invariant-loop-slot : goal.invariant-loop-slot
invariant-loop-slot l = slots_of l.slots.items ≡ replicate l._slot []
