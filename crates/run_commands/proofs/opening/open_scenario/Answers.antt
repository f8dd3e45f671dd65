use Rattle.std.proofs.Common.{◌≡◌, Ok}
use Rattle.scenario_file.specs.Reading.{contents}
use Rattle.command_files.specs.Scenarios.{scenario_at}
use Rattle.run_commands.proofs.Openings.{found-in}
use Rattle.run_commands.proofs.opening.open_scenario.Goals as goal

pub returns-in-Ok-clause-found : goal.returns-in-Ok-clause-found
returns-in-Ok-clause-found g c =
    found-in (λ s at. scenario_at at ≡ Ok (contents s)) (g.F.Files.held c.args.files.now c.args.name.now)
    c.in-Ok.content.items c.as_slice.result.now c.read_scenario.result
    c.as_slice.ensures.value c.in-Ok.ensures.cause.0 c.in-Ok.ensures.cause.1 c.read_scenario.ensures.found
