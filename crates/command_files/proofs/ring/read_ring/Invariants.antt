use Rattle.command_files.proofs.Rings.{ReadSoFar}
use Rattle.command_files.proofs.ring.read_ring.Given as goal

abbrev pub invariant-loop-actor : goal.invariant-loop-actor
invariant-loop-actor l = ReadSoFar l.cast l.text l.actor l.ring l.rest
