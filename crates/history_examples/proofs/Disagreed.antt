-- The history with too many masters intruded, computed: it meets the other premises, and masters 2 and 3 have executed
-- different updates.
use Rattle.std.proofs.Common.{refl}
use Rattle.history_examples.specs.Disagreed as it
use Rattle.history_examples.specs.Examples.{TwoIntrudedDisagree}
use Rattle.history_examples.proofs.Apart.{apart}
use Rattle.history_examples.proofs.Computing.{computing, IsComputed, is_legal, none_forged, none_alike}
use Rattle.history_examples.proofs.Computing.{four_have_sizes}

computed : IsComputed it.setup it.history 2 0
unfolding computing
computed = record { come = refl; say = refl; intruded = refl; forged = refl; alike = refl }

pub two_intruded_disagree : TwoIntrudedDisagree
unfolding computing
two_intruded_disagree = record {
  legal = is_legal it.setup it.history 2 0 computed;
  sizes = four_have_sizes 2;
  intruded = refl;
  unforged = none_forged it.setup it.history 2 computed;
  alike = none_alike it.setup it.history 2 0 computed;
  disagree = record {
    first_correct = refl;
    second_correct = refl;
    first_executed = refl;
    second_executed = refl;
    apart = apart;
  };
}
