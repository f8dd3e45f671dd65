use Rattle.history_examples.proofs.Forged.{forged_words_disagree}
use Rattle.history_examples.proofs.examples.forged_words_disagree.Goals as goal

pub returns : goal.returns
returns c = forged_words_disagree
