-- The file isn't loaded, or its content is a ring or has a first line that isn't one's.
use Rattle.station_commands.proofs.Scenarios.{unloaded}
use Rattle.station_commands.proofs.holding.open_ring.Goals as goal

pub returns-in-Err-clause-cause : goal.returns-in-Err-clause-cause
returns-in-Err-clause-cause g c =
    unloaded (g.F.Files.held c.args.files.now c.args.name.now) (g.F.Files.faults c.args.files.now c.args.name.now)
    (g.F.Files.faults c.load.new.files c.args.name.now) c.args.name.now c.in-Err.refusal c.in-Err.ensures.cause
