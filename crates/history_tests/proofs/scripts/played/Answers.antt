use Rattle.scenario_file.specs.Reading.{contents}
use Rattle.history_tests.proofs.scripts.played.Goals as goal

pub play-requires-clause-lines : goal.play-requires-clause-lines
play-requires-clause-lines c =
    c.read_lines_are_of_scenario.ensures (contents c.in_ok-scenario.scenario) _ c.in_ok-script.script
    c.in_ok-scenario.ensures.valid c.in_ok-script.ensures

pub play-requires-clause-words : goal.play-requires-clause-words
play-requires-clause-words c =
    c.read_words_are_of_scenario.ensures (contents c.in_ok-scenario.scenario) _ c.in_ok-words.words
    c.in_ok-scenario.ensures.valid c.in_ok-words.ensures
