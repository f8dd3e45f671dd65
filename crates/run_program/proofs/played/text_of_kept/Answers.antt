-- The benches taken out of their actors are the same ones, so what they merge to is the history that these
-- made.
use Rattle.std.proofs.Common.{map, ◌∙◌}
use Rattle.scenario_file.specs.Reading.{contents}
use Rattle.world_history.specs.KeptState.{KeptState}
use Rattle.run_program.proofs.Benches.{prints_after, text_after}
use Rattle.run_program.proofs.played.text_of_kept.Goals as goal

pub text_of_benches-requires-clause-benches : goal.text_of_benches-requires-clause-benches
text_of_benches-requires-clause-benches c =
    prints_after (contents c.args.scenario.now) c.requires.kept.0
    (map (λ (k : KeptState). k.bench) c.args.kept.items) c.as_slice.result.now
    (c.as_slice.ensures.value ∙ c.in_ok-benches.ensures) c.requires.kept.1

pub returns : goal.returns
returns c =
    text_after (contents c.args.scenario.now) (map (λ (k : KeptState). k.bench) c.args.kept.items)
    c.as_slice.result.now c.text_of_benches.result
    (c.as_slice.ensures.value ∙ c.in_ok-benches.ensures) c.text_of_benches.ensures
