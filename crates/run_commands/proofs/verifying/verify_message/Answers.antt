-- The course asks for the message's file first. A file that can't be loaded ends it, and otherwise it goes on
-- to the signature with the message loaded.
use Rattle.std.proofs.Common.{[], ◌∷◌, refl, subst}
use Rattle.command_ends.specs.Calls.{TextCause}
use Rattle.command_ends.proofs.Courses.{after-load, load-failed}
use Rattle.run_commands.specs.Course.{VerifyStep}
use Rattle.run_commands.proofs.verifying.verify_message.Goals as goal

pub returns-in-Ok-clause-cause : goal.returns-in-Ok-clause-cause
returns-in-Ok-clause-cause g c =
    let next = VerifyStep c.args.public.now c.args.message.now c.args.signature.now in
    let later = g.F.Files.held c.load.new.files in
    let after = g.F.Files.faults c.load.new.files in
    let last = g.F.Files.faults c.verify_signature.new.files in
    after-load next (g.F.Files.held c.args.files.now) later (g.F.Files.faults c.args.files.now)
    after last [] c.args.message.now c.in-Ok.message.items c.verify_signature.result
    refl c.in-Ok.ensures.cause.0 c.in-Ok.ensures.cause.1 c.load.ensures.kept c.in-Ok.ensures.file_faults
    (subst (λ m. TextCause next later after last (m ∷ []) c.verify_signature.result) c.as_slice.ensures.value
    (c.verify_signature.ensures.cause c.args.message.now))

pub returns-in-Err-clause-cause : goal.returns-in-Err-clause-cause
returns-in-Err-clause-cause g c =
    load-failed (VerifyStep c.args.public.now c.args.message.now c.args.signature.now)
    (g.F.Files.held c.args.files.now) (g.F.Files.faults c.args.files.now) (g.F.Files.faults c.load.new.files) []
    c.args.message.now c.in-Err.refusal refl c.in-Err.ensures.cause
