use Rattle.std.proofs.Common.{arith}
use Rattle.replica_threads.proofs.running.run.Goals as goal

pub new-requires : goal.new-requires
new-requires g c = (omega arith, omega (arith, c.actors.ensures.few))
