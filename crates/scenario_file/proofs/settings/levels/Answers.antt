use Rattle.std.proofs.Common.{sym}
use Rattle.toml.specs.View.{table_view}
use Rattle.scenario_file.proofs.SettingsLaws.{levels_of-default}
use Rattle.scenario_file.proofs.settings.levels.Goals as goal

pub returns-in_ok-usual_heights-in-None : goal.returns-in_ok-usual_heights-in-None
returns-in_ok-usual_heights-in-None c =
    rw c.in_ok-usual_heights-in-None.ensures
    (levels_of-default (table_view c.args.document.now.table.now) (sym c.in-None.ensures))
