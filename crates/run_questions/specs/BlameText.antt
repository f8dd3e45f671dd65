-- The text that names the masters that contradicted themselves. Only what was taken counts: a cry that nobody took
-- names nobody. (This project's own.)
use Rattle.std.specs.Prelude.{◌≡◌, ℕ, true, List, ◌++◌, length, codes, decimal}
use Rattle.std.specs.List.{flat_map}
use Rattle.hex.specs.Hex.{encode_lower}
use Rattle.message_types.specs.Spelling.{has_spelling}
use Rattle.message_types.specs.Texts.{frame_text}
use Rattle.scenario_file.specs.Reading.{Contents}
use Rattle.script_grammar.specs.Kinds.{kind_name}
use Rattle.history_rules.specs.Events.{Entry}
use Rattle.world_rules.specs.Scenarios.{setup_of}
use Rattle.run_lines.specs.Names.{kind_of}
use Rattle.blame_check.specs.declared.pairs.Named.{Named}
use Rattle.blame_check.specs.Laws.{blamed}

-- both frames have a spelling
pub record IsSpelled (pair : Named) : Type 0 where
  pub first : has_spelling pair.first ≡ true
  pub second : has_spelling pair.second ≡ true

-- the line of a master: the kind of its two words, and the frames as they are spelled, in hexadecimal digits
unfoldable pub named_text : Named → List ℕ
named_text pair =
    codes "m" ++ decimal pair.master ++ codes " " ++ kind_name (kind_of pair.first.body)
    ++ codes " " ++ encode_lower (frame_text pair.first) ++ codes " "
    ++ encode_lower (frame_text pair.second) ++ codes "\n"

-- how many there are, and a line for each
unfoldable pub named_lines : List Named → List ℕ
named_lines pairs = codes "blame " ++ decimal (length pairs) ++ codes "\n" ++ flat_map named_text pairs

-- the text of who is blamed for a history of a scenario
abbrev pub blame_text : Contents → List Entry → List ℕ
blame_text c history = named_lines (blamed (setup_of c) history)
