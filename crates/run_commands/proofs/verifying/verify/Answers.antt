use Rattle.std.proofs.Common.{[], subst}
use Rattle.command_ends.specs.Calls.{TextCause}
use Rattle.run_commands.specs.Course.{VerifyCourse}
use Rattle.run_commands.proofs.verifying.verify.Goals as goal

pub returns-in-Some-clause-cause : goal.returns-in-Some-clause-cause
returns-in-Some-clause-cause g c =
    subst (λ public. TextCause (VerifyCourse public c.args.message.now c.args.signature.now)
    (g.F.Files.held c.args.files.now) (g.F.Files.faults c.args.files.now)
    (g.F.Files.faults c.verify_message.new.files) [] c.verify_message.result)
    c.in-Some.ensures c.verify_message.ensures.cause
