-- The run under an intruded leader, computed: it is sound, and master 3 has executed.
use Rattle.std.proofs.Common.{refl, arith}
use Rattle.history_examples.specs.Relayed as it
use Rattle.history_examples.specs.Examples.{ExecutedUnderIntrudedLeader}
use Rattle.history_examples.proofs.Computing.{computing, IsComputed, is_sound, four_have_sizes}

computed : IsComputed it.setup it.history 1 0
unfolding computing
computed = record { come = refl; say = refl; intruded = refl; forged = refl; alike = refl }

pub executed_under_intruded_leader : ExecutedUnderIntrudedLeader
unfolding computing
executed_under_intruded_leader = record {
  sound = is_sound it.setup it.history 1 (four_have_sizes 1) (omega arith) computed;
  intruded = refl;
  leader = refl;
  correct = refl;
  executed = refl;
}
