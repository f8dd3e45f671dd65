use Rattle.script_laws.proofs.Accepting.{sayings_of}
use Rattle.script_laws.proofs.laws.read_words_are_of_scenario.Goals as goal

pub returns : goal.returns
returns c = sayings_of
