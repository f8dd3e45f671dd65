-- Reading and definition agree on each content.
use Rattle.command_files.proofs.Readings.{shown-at}
use Rattle.command_files.proofs.scenarios.scenario_of.Goals as goal

pub returns-clause-read : goal.returns-clause-read
returns-clause-read c = shown-at c.args.content.now c.read.result c.read.ensures.text c.read.ensures.no_text
