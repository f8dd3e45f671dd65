use Rattle.std.proofs.Common.{map, string_bytes}
use Rattle.command_words.specs.Wanted.{wanted}
use Rattle.run_commands.proofs.Playing.{asked-now}
use Rattle.run_commands.proofs.program.ProgramCommands.text.Goals as goal

pub returns-in-Ok-clause-cause : goal.returns-in-Ok-clause-cause
returns-in-Ok-clause-cause g c =
    asked-now g.R.Runs.readers (map string_bytes c.args.words.now) (wanted c.in-Ok.asked)
    (g.F.Files.held c.args.files.now) (g.F.Files.faults c.args.files.now)
    (g.F.Files.faults c.command_text.new.files) c.command_text.result c.in-Ok.ensures.taken c.in-Ok.ensures.asked
    c.command_text.ensures.cause
