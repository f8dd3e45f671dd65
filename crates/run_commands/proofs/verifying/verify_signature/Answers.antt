-- With the message loaded the signature's file is the last that the course asks for, and whether the key
-- verifies decides its last step.
use Rattle.std.proofs.Common.{[], ◌∷◌, refl, subst}
use Rattle.command_ends.proofs.Courses.{after-load, load-failed}
use Rattle.run_commands.specs.Course.{VerifyStep}
use Rattle.run_commands.specs.Made.{VerifyMakes}
use Rattle.run_commands.proofs.Playing.{verify-now}
use Rattle.run_commands.proofs.verifying.verify_signature.Goals as goal

pub returns-in-Ok-clause-cause : goal.returns-in-Ok-clause-cause
returns-in-Ok-clause-cause g c = λ named.
    let later = g.F.Files.held c.load.new.files in
    let after = g.F.Files.faults c.load.new.files in
    let sig = c.in-Ok.signature.items in
    after-load (VerifyStep c.args.public.now named c.args.signature.now) (g.F.Files.held c.args.files.now) later
    (g.F.Files.faults c.args.files.now) after after
    (c.args.message.now ∷ []) c.args.signature.now sig c.verified.result
    refl c.in-Ok.ensures.cause.0 c.in-Ok.ensures.cause.1 c.load.ensures.kept c.in-Ok.ensures.file_faults
    (verify-now c.args.public.now c.args.message.now named c.args.signature.now sig later after after c.verified.result
    (subst (λ s. VerifyMakes c.args.public.now c.args.message.now s c.verified.result)
    c.as_slice.ensures.value c.verified.ensures))

pub returns-in-Err-clause-cause : goal.returns-in-Err-clause-cause
returns-in-Err-clause-cause g c = λ named.
    load-failed (VerifyStep c.args.public.now named c.args.signature.now) (g.F.Files.held c.args.files.now)
    (g.F.Files.faults c.args.files.now) (g.F.Files.faults c.load.new.files) (c.args.message.now ∷ [])
    c.args.signature.now c.in-Err.refusal refl c.in-Err.ensures.cause
