-- The history with shared leaves, computed: it is sound, and master 1 has executed and used all its leaves.
use Rattle.std.proofs.Common.{refl, arith}
use Rattle.agreement.specs.Laws.{HasSizes}
use Rattle.history_examples.specs.Shared as it
use Rattle.history_examples.specs.Examples.{ExecutedWithSharedLeaves}
use Rattle.history_examples.proofs.Computing.{computing, IsComputed, is_sound}

computed : IsComputed it.setup it.history 1 0
unfolding computing
computed = record { come = refl; say = refl; intruded = refl; forged = refl; alike = refl }

sizes : HasSizes it.group
sizes = record {
  group = record {
    some_may_be_intruded = omega arith;
    at_most_three_intruded = omega arith;
    at_most_two_away = omega arith;
  };
  all = refl;
  quorum = refl;
}

pub executed_with_shared_leaves : ExecutedWithSharedLeaves
unfolding computing
executed_with_shared_leaves = record {
  sound = is_sound it.setup it.history 1 sizes (omega arith) computed;
  away = refl;
  correct = refl;
  executed = refl;
  orders = refl;
  used = refl;
}
