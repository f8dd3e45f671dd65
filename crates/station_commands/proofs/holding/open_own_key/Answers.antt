-- The file isn't loaded, or its content is the line of the actor's own key or not.
use Rattle.station_commands.proofs.Scenarios.{unloaded}
use Rattle.station_commands.proofs.holding.open_own_key.Goals as goal

pub returns-in-Err : goal.returns-in-Err
returns-in-Err g c =
    unloaded (g.F.Files.held c.args.files.now c.args.name.now) (g.F.Files.faults c.args.files.now c.args.name.now)
    (g.F.Files.faults c.load.new.files c.args.name.now) c.args.name.now c.in-Err.refusal c.in-Err.ensures.cause
