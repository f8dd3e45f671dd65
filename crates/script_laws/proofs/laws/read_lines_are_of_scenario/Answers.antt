use Rattle.script_laws.proofs.Accepting.{lines_of}
use Rattle.script_laws.proofs.laws.read_lines_are_of_scenario.Goals as goal

pub returns : goal.returns
returns c = lines_of
