use Rattle.run_program.proofs.Rules.{keeps}
use Rattle.run_program.proofs.runs.ProgramRunsRuns.keep_rules.Goals as goal

pub returns : goal.returns
returns g c = keeps c.read_lines_are_of_scenario.ensures c.read_words_are_of_scenario.ensures c.played_is_legal.ensures
    c.played_is_unforged.ensures c.played_is_told.ensures c.runs_are_legal.ensures.legal
    c.runs_exist.ensures.scripts
