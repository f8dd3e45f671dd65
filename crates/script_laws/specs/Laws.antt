-- What was read for a scenario can be played there.
use Rattle.std.specs.Prelude.{◌≡◌, ℕ, true, List, Ok}
use Rattle.scenario_file.specs.Reading.{Contents}
use Rattle.scenario_file.specs.Valid.{IsScenario}
use Rattle.script_grammar.specs.Names.{who_of}
use Rattle.script_lines.specs.declared.saying.Saying.{Saying}
use Rattle.script_lines.specs.declared.script.Line.{Line}
use Rattle.script_lines.specs.Scripts.{script_in}
use Rattle.script_lines.specs.Sayings.{words_in}
use Rattle.script_laws.specs.Accepted.{are_lines_of, are_sayings_of}

abbrev pub ReadLinesAreOfScenario : Type 0
ReadLinesAreOfScenario = (c : Contents) (bytes : List ℕ) (lines : List Line) → IsScenario c →
    script_in (who_of c) bytes ≡ Ok lines → are_lines_of c lines ≡ true

abbrev pub ReadWordsAreOfScenario : Type 0
ReadWordsAreOfScenario = (c : Contents) (bytes : List ℕ) (words : List Saying) → IsScenario c →
    words_in (who_of c) bytes ≡ Ok words
    → are_sayings_of c words ≡ true
