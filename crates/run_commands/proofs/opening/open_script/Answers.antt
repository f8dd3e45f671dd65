-- What was loaded is what the file holds, so the script read from it is the file's.
use Rattle.std.proofs.Common.{◌≡◌, Ok}
use Rattle.scenario_file.specs.Reading.{contents}
use Rattle.script_grammar.specs.Names.{who_of}
use Rattle.script_lines.specs.Scripts.{script_in}
use Rattle.run_commands.proofs.Openings.{found-in}
use Rattle.run_commands.proofs.opening.open_script.Goals as goal

pub returns-in-Ok-clause-found : goal.returns-in-Ok-clause-found
returns-in-Ok-clause-found g c =
    found-in (λ s at. script_in (who_of (contents c.args.scenario.now)) at ≡ Ok s)
    (g.F.Files.held c.args.files.now c.args.name.now) c.in-Ok.content.items
    c.as_slice.result.now c.read_script.result
    c.as_slice.ensures.value c.in-Ok.ensures.cause.0 c.in-Ok.ensures.cause.1 c.read_script.ensures.found
