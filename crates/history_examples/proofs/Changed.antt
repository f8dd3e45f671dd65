-- The history with a change of view, computed: it is sound, and master 1 has executed in view 1 what was prepared in
-- view 0.
use Rattle.std.proofs.Common.{refl, arith}
use Rattle.history_examples.specs.Changed as it
use Rattle.history_examples.specs.Examples.{ExecutedAfterChangeOfView}
use Rattle.history_examples.proofs.Computing.{computing, IsComputed, is_sound, four_have_sizes}

computed : IsComputed it.setup it.history 1 0
unfolding computing
computed = record { come = refl; say = refl; intruded = refl; forged = refl; alike = refl }

pub executed_after_change_of_view : ExecutedAfterChangeOfView
unfolding computing
executed_after_change_of_view = record {
  sound = is_sound it.setup it.history 1 (four_have_sizes 1) (omega arith) computed;
  intruded = refl;
  correct = refl;
  leads = refl;
  none_before = refl;
  view = refl;
  executed = refl;
}
