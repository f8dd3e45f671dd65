use Rattle.history_examples.proofs.Disagreed.{two_intruded_disagree}
use Rattle.history_examples.proofs.examples.two_intruded_disagree.Goals as goal

pub returns : goal.returns
returns c = two_intruded_disagree
