use Rattle.std.proofs.Common.{◌≡◌, vec_len}
use Rattle.field_proxy.specs.Undoing.{undone}
use Rattle.field_proxy.proofs.undo.undo.Given as goal

abbrev pub invariant-loop-held : goal.invariant-loop-held
invariant-loop-held l = undone l.log.items l.device ≡ undone l.initial.log.items l.initial.device

abbrev pub decreases-loop-held : goal.decreases-loop-held
decreases-loop-held l = vec_len l.log
