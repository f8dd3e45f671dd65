-- With the scenario known the course of a replay asks for the history's file, and its last step gives the
-- history's text, which tells it, or refusal. A file that can't be loaded ends it.
use Rattle.std.proofs.Common.{[], ◌∷◌, subst}
use Rattle.scenario_file.specs.Reading.{contents}
use Rattle.command_ends.proofs.Courses.{after-load, load-failed}
use Rattle.run_commands.specs.Readers.{ReplayGives}
use Rattle.run_commands.specs.Told.{ReplayCourse}
use Rattle.run_commands.proofs.Playing.{replay-first, replay-second, replay-now}
use Rattle.run_commands.proofs.scripted.replay_history.Goals as goal

pub returns-in-Ok-clause-cause : goal.returns-in-Ok-clause-cause
returns-in-Ok-clause-cause g c = λ name first one.
    let r = g.R.Runs.readers in
    let is = contents c.args.scenario.now in
    let next = ReplayCourse r name c.args.history.now in
    let later = g.F.Files.held c.load.new.files in
    let after = g.F.Files.faults c.load.new.files in
    let text = c.in-Ok.text.items in
    after-load next (g.F.Files.held c.args.files.now) later (g.F.Files.faults c.args.files.now) after after
    (first ∷ []) c.args.history.now text c.replay_text.result
    (replay-first r name c.args.history.now first is one) c.in-Ok.ensures.cause.0 c.in-Ok.ensures.cause.1
    c.load.ensures.kept c.in-Ok.ensures.file_faults
    (replay-now next later after after (first ∷ text ∷ []) r is text c.replay_text.result
    (λ step ends. replay-second r name c.args.history.now first text is step one ends)
    (subst (λ t. ReplayGives r is t c.replay_text.result) c.as_slice.ensures.value c.replay_text.ensures))

pub returns-in-Err-clause-cause : goal.returns-in-Err-clause-cause
returns-in-Err-clause-cause g c = λ name first one.
    let r = g.R.Runs.readers in
    load-failed (ReplayCourse r name c.args.history.now) (g.F.Files.held c.args.files.now)
    (g.F.Files.faults c.args.files.now)
    (g.F.Files.faults c.load.new.files) (first ∷ []) c.args.history.now c.in-Err.refusal
    (replay-first r name c.args.history.now first (contents c.args.scenario.now) one) c.in-Err.ensures.cause
