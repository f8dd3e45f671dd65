use Rattle.std.specs.Prelude.{option_map}
use Rattle.station_words.specs.Wanted.{key_files}
use Rattle.station_commands.proofs.Scenarios.{read_of, unread}
use Rattle.station_commands.proofs.opening.open_scenario.Goals as goal

pub returns-in-Ok-clause-cause : goal.returns-in-Ok-clause-cause
returns-in-Ok-clause-cause g c =
    read_of (option_map key_files c.args.keys) (g.F.Files.held c.args.files.now c.args.name.now)
    (g.F.Files.faults c.args.files.now c.args.name.now) (g.F.Files.faults c.load.new.files c.args.name.now)
    c.args.name.now c.in-Ok.content c.as_slice.result.now c.read_by.result c.in-Ok.ensures.cause
    c.as_slice.ensures.value c.read_by.ensures.cause

pub returns-in-Err-clause-cause : goal.returns-in-Err-clause-cause
returns-in-Err-clause-cause g c =
    unread (option_map key_files c.args.keys) (g.F.Files.held c.args.files.now c.args.name.now)
    (g.F.Files.faults c.args.files.now c.args.name.now) (g.F.Files.faults c.load.new.files c.args.name.now)
    c.args.name.now c.in-Err.refusal c.in-Err.ensures.cause
