-- Lines and words that were read for a scenario fit it, which is all that a play asks of them, so the text is
-- that of the play.
use Rattle.scenario_file.specs.Reading.{contents}
use Rattle.run_program.proofs.runs.ProgramRunsRuns.play_text.Goals as goal

pub played_text-requires-clause-lines : goal.played_text-requires-clause-lines
played_text-requires-clause-lines g c =
    c.read_lines_are_of_scenario.ensures (contents c.args.scenario.now) c.requires.script.0 c.args.script.now
    c.requires.valid c.requires.script.1

pub played_text-requires-clause-words : goal.played_text-requires-clause-words
played_text-requires-clause-words g c =
    c.read_words_are_of_scenario.ensures (contents c.args.scenario.now) c.requires.words.0 c.args.words.now
    c.requires.valid c.requires.words.1

pub returns : goal.returns
returns g c = c.played_text.ensures
