-- The course of a merge begins with the scenario's file. Where it is refused the course ends there, and otherwise the files
-- that stations kept go on from the scenario that it holds.
use Rattle.std.proofs.Common.{[], ◌∷◌, map, refl, subst}
use Rattle.scenario_file.specs.Reading.{contents}
use Rattle.command_ends.specs.Calls.{TextCause}
use Rattle.command_ends.proofs.Courses.{after-load}
use Rattle.run_commands.specs.Reading.{with_scenario}
use Rattle.run_commands.specs.Course.{MergeCourse}
use Rattle.run_commands.specs.Told.{told_merges}
use Rattle.run_commands.proofs.Openings.{open-refused}
use Rattle.run_commands.proofs.Merging.{merge-refused}
use Rattle.run_commands.proofs.merged.merge_few.Goals as goal

pub returns-in-Ok-clause-cause : goal.returns-in-Ok-clause-cause
returns-in-Ok-clause-cause g c =
    let names = map (λ keep. keep.now) c.args.keeps.now in
    let next = MergeCourse (told_merges g.R.Runs.readers) c.args.scenario.now names in
    let later = g.F.Files.held c.open_scenario.new.files in
    let between = g.F.Files.faults c.open_scenario.new.files in
    let after = g.F.Files.faults c.merge_from.new.files in
    let found = c.in-Ok.ensures.found in
    after-load next _ later _ between after [] c.args.scenario.now found.0 c.merge_from.result
    refl found.1 found.2 c.open_scenario.ensures.kept c.in-Ok.ensures.file_faults
    (subst (λ kept. TextCause next later between after (found.0 ∷ kept) c.merge_from.result) c.new.ensures.items
    (c.merge_from.ensures.cause c.args.scenario.now found.0 found.3))

pub returns-in-Err-clause-cause : goal.returns-in-Err-clause-cause
returns-in-Err-clause-cause g c =
    let names = map (λ keep. keep.now) c.args.keeps.now in
    open-refused (MergeCourse (told_merges g.R.Runs.readers) c.args.scenario.now names) _ _ _ []
    c.args.scenario.now with_scenario contents c.in-Err.refusal refl c.in-Err.ensures.cause
    (λ first w one. merge-refused (told_merges g.R.Runs.readers) c.args.scenario.now names first w one)
