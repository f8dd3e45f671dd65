-- Numbers in range take the course of a run, and others are no command.
use Rattle.std.proofs.Common.{sym, refl, ◌∙◌}
use Rattle.run_commands.specs.Told.{told_runs}
use Rattle.run_commands.proofs.Threading.{in-range, out-of-range}
use Rattle.run_commands.proofs.threaded.run.Goals as goal

pub run_in_range-requires-clause-range : goal.run_in_range-requires-clause-range
run_in_range-requires-clause-range g c = sym c.are_in_range.ensures ∙ c.if-are_in_range.true

pub returns-then-are_in_range-clause-cause : goal.returns-then-are_in_range-clause-cause
returns-then-are_in_range-clause-cause g c =
    in-range (told_runs g.R.Runs.readers) _ _ _ _ _ _ _ _ c.run_in_range.result
    (sym c.are_in_range.ensures ∙ c.if-are_in_range.true) c.run_in_range.ensures.cause

pub returns-else-are_in_range-clause-cause : goal.returns-else-are_in_range-clause-cause
returns-else-are_in_range-clause-cause g c =
    let faults = g.F.Files.faults c.args.files.now in
    out-of-range (told_runs g.R.Runs.readers) _ _ _ _ _ _ faults faults _ (sym c.are_in_range.ensures ∙ c.if-are_in_range.false) refl
