-- How the call ends is shown of its words, files and outputs alone. The headline and the laws of answers and
-- rebuilt requests follow, as the program's runs keep their rules.
use Rattle.run_commands.proofs.Keeping.{keeps_commands}
use Rattle.run_commands.proofs.call.run_command.Goals as goal

pub returns : goal.returns
returns g c = keeps_commands g.R.Runs.readers c.keep_rules.ensures _ _ c.end_call.result c.end_call.ensures
