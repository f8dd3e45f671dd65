-- So many files as there may be go on as a merge, others are no command.
use Rattle.std.proofs.Common.{ap, sym, refl, ◌∙◌}
use Rattle.std.proofs.lemmas.List.{length-map}
use Rattle.run_commands.specs.Readers.{are_few}
use Rattle.run_commands.specs.Told.{told_merges}
use Rattle.run_commands.proofs.Merging.{few-enough, not-few}
use Rattle.run_commands.proofs.merged.merge.Goals as goal

pub merge_few-requires : goal.merge_few-requires
merge_few-requires g c = sym c.are_few.ensures ∙ c.if-are_few.true

pub returns-then-are_few-clause-cause : goal.returns-then-are_few-clause-cause
returns-then-are_few-clause-cause g c =
    few-enough (told_merges g.R.Runs.readers) _ _ _ _ _ _ c.merge_few.result
    (ap are_few (length-map c.args.keeps.now _) ∙ sym c.are_few.ensures ∙ c.if-are_few.true) c.merge_few.ensures.cause

pub returns-else-are_few-clause-cause : goal.returns-else-are_few-clause-cause
returns-else-are_few-clause-cause g c =
    let faults = g.F.Files.faults c.args.files.now in
    not-few (told_merges g.R.Runs.readers) _ _ _ _ faults faults _
    (ap are_few (length-map c.args.keeps.now _) ∙ sym c.are_few.ensures ∙ c.if-are_few.false) refl
