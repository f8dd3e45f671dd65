-- The history with forged words, computed: it meets the other premises, and masters 2 and 3 have executed different
-- updates.
use Rattle.std.proofs.Common.{refl}
use Rattle.history_examples.specs.Forged as it
use Rattle.history_examples.specs.Examples.{ForgedWordsDisagree}
use Rattle.history_examples.proofs.Apart.{apart}
use Rattle.history_examples.proofs.Computing.{computing, IsComputed, is_legal, none_alike, four_have_sizes}

computed : IsComputed it.setup it.history 0 18
unfolding computing
computed = record { come = refl; say = refl; intruded = refl; forged = refl; alike = refl }

pub forged_words_disagree : ForgedWordsDisagree
unfolding computing
forged_words_disagree = record {
  legal = is_legal it.setup it.history 0 18 computed;
  sizes = four_have_sizes 2;
  intruded = refl;
  forged_words = refl;
  alike = none_alike it.setup it.history 0 18 computed;
  disagree = record {
    first_correct = refl;
    second_correct = refl;
    first_executed = refl;
    second_executed = refl;
    apart = apart;
  };
}
