-- Where nothing is noted the number isn't one of the pending view: its view is another, it is 0, or it isn't below the
-- end. Each case refutes that a word may be due for it.
use Rattle.std.proofs.Common.{arith}
use Rattle.global_order.proofs.Touching.{noted-not}
use Rattle.global_order.proofs.pending.note_pending.Goals as goal
use Rattle.global_order.proofs.pending.note_pending.Goals.{then-v-pending-via-then-v-pending}
use Rattle.global_order.proofs.pending.note_pending.Goals.{then-v-pending-via-else-v-pending+then-s-eq0}
use Rattle.global_order.proofs.pending.note_pending.Goals.{then-v-pending-via-else-v-pending+else-s-eq0+then-s-pending}

pub returns-then-v-pending : goal.returns-then-v-pending
returns-then-v-pending c = noted-not c.args.v c.args.s c.args.pending.now (elim c.then-v-pending.branch [
  | then-v-pending-via-then-v-pending w ↦ λ here one less. grind (arith, w.if-v-pending.true)
  | then-v-pending-via-else-v-pending+then-s-eq0 w ↦ λ here one less. omega (arith, w.if-s-eq0.true)
  | then-v-pending-via-else-v-pending+else-s-eq0+then-s-pending w ↦ λ here one less. omega (arith, w.if-s-pending.true)
])
