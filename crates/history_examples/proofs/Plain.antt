-- The plain run, computed: it is sound, and master 0 has executed.
use Rattle.std.proofs.Common.{refl, arith}
use Rattle.history_examples.specs.Plain as it
use Rattle.history_examples.specs.Examples.{SomethingIsExecuted}
use Rattle.history_examples.proofs.Computing.{computing, IsComputed, is_sound, four_have_sizes}

computed : IsComputed it.setup it.history 0 0
unfolding computing
computed = record { come = refl; say = refl; intruded = refl; forged = refl; alike = refl }

pub something_is_executed : SomethingIsExecuted
unfolding computing
something_is_executed = record {
  sound = is_sound it.setup it.history 0 (four_have_sizes 1) (omega arith) computed;
  intruded = refl;
  correct = refl;
  executed = refl;
}
