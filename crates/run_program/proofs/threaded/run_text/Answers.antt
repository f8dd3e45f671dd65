-- In a run each entry is in one bench alone, so the benches can be merged and printed. The history that they
-- merge to is legal and one of this run.
use Rattle.std.proofs.Common.{map, ◌∙◌}
use Rattle.scenario_file.specs.Reading.{contents}
use Rattle.world_history.specs.KeptState.{KeptState}
use Rattle.replica_threads.specs.Courses.{inputs_given}
use Rattle.run_program.proofs.RunTexts.{run_prints, run_printed}
use Rattle.run_program.proofs.threaded.run_text.Goals as goal

pub text_of_benches-requires-clause-benches : goal.text_of_benches-requires-clause-benches
text_of_benches-requires-clause-benches g c =
    run_prints (contents c.args.scenario.now)
    (inputs_given (contents c.args.scenario.now) c.args.script.now c.args.words.now) c.args.turns
    (map (λ (k : KeptState). k.bench) c.in_ok-kept.kept.items) c.as_slice.result.now
    (c.as_slice.ensures.value ∙ c.in_ok-benches.ensures) c.in_ok-kept.ensures.run c.runs_are_legal.ensures.once
    c.requires.valid c.requires.turns

pub returns : goal.returns
returns g c =
    run_printed (contents c.args.scenario.now)
    (inputs_given (contents c.args.scenario.now) c.args.script.now c.args.words.now) c.args.turns
    (map (λ (k : KeptState). k.bench) c.in_ok-kept.kept.items) c.as_slice.result.now
    (c.as_slice.ensures.value ∙ c.in_ok-benches.ensures) c.in_ok-kept.ensures.run c.text_of_benches.result
    c.text_of_benches.ensures
