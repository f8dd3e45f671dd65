-- With the scenario known the course asks for the file of parts next, and what is rebuilt of them is its last
-- step. A file that can't be loaded ends the course.
use Rattle.std.proofs.Common.{[], ◌∷◌, subst}
use Rattle.scenario_file.specs.Reading.{contents}
use Rattle.command_ends.proofs.Courses.{after-load, load-failed}
use Rattle.run_commands.specs.Readers.{RebuildGives}
use Rattle.run_commands.specs.Reading.{with_pieces}
use Rattle.run_commands.specs.Course.{RebuildCourse}
use Rattle.run_commands.proofs.Openings.{made-now}
use Rattle.run_commands.proofs.Posing.{rebuild-first, rebuild-second, rebuild-makes}
use Rattle.run_commands.proofs.answering.rebuild_from.Goals as goal

pub returns-in-Ok-clause-cause : goal.returns-in-Ok-clause-cause
returns-in-Ok-clause-cause g c = λ name first one.
    let r = g.R.Runs.readers in
    let is = contents c.args.scenario.now in
    let next = RebuildCourse r name c.args.pieces.now in
    let later = g.F.Files.held c.load.new.files in
    let after = g.F.Files.faults c.load.new.files in
    let text = c.in-Ok.text.items in
    after-load next (g.F.Files.held c.args.files.now) later (g.F.Files.faults c.args.files.now) after after
    (first ∷ []) c.args.pieces.now text c.rebuilt_text.result
    (rebuild-first r name c.args.pieces.now first is one) c.in-Ok.ensures.cause.0 c.in-Ok.ensures.cause.1
    c.load.ensures.kept c.in-Ok.ensures.file_faults
    (made-now next later after after (first ∷ text ∷ []) (with_pieces r is text) c.rebuilt_text.result
    (rebuild-second r name c.args.pieces.now first text is one)
    (rebuild-makes r is text c.rebuilt_text.result
    (subst (λ t. RebuildGives r is t c.rebuilt_text.result) c.as_slice.ensures.value c.rebuilt_text.ensures)))

pub returns-in-Err-clause-cause : goal.returns-in-Err-clause-cause
returns-in-Err-clause-cause g c = λ name first one.
    let r = g.R.Runs.readers in
    load-failed (RebuildCourse r name c.args.pieces.now) (g.F.Files.held c.args.files.now)
    (g.F.Files.faults c.args.files.now)
    (g.F.Files.faults c.load.new.files) (first ∷ []) c.args.pieces.now c.in-Err.refusal
    (rebuild-first r name c.args.pieces.now first (contents c.args.scenario.now) one) c.in-Err.ensures.cause
