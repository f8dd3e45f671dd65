-- Lines and words that were read for a scenario fit it, which is all that a run asks of them.
use Rattle.scenario_file.specs.Reading.{contents}
use Rattle.run_program.proofs.runs.ProgramRunsRuns.run_text.Goals as goal

pub run_text-requires-clause-lines : goal.run_text-requires-clause-lines
run_text-requires-clause-lines g c κs within =
    c.read_lines_are_of_scenario.ensures (contents c.args.scenario.now) c.requires.script.0 c.args.script.now
    c.requires.valid c.requires.script.1

pub run_text-requires-clause-words : goal.run_text-requires-clause-words
run_text-requires-clause-words g c κs within =
    c.read_words_are_of_scenario.ensures (contents c.args.scenario.now) c.requires.words.0 c.args.words.now
    c.requires.valid c.requires.words.1
