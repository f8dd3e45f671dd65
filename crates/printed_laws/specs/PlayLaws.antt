-- What holds of the printed text of a play, as statements. (This project's own.)
use Rattle.std.specs.Prelude.{◌≡◌, ◌<◌, ◌^◌, true, List, Ok}
use Rattle.std.specs.List.{All}
use Rattle.scenario_file.specs.Valid.{IsScenario}
use Rattle.message_forms.specs.Widths.{IsBytes, FitsOp}
use Rattle.history_rules.specs.Events.{Event, Command, Field, Cry, Entry}
use Rattle.script_lines.specs.declared.script.Line.{Line}
use Rattle.script_laws.specs.Accepted.{are_lines_of, are_sayings_of}
use Rattle.run_scripts.specs.Making.{Given, played}
use Rattle.printed_run.specs.Printed.{text_of}
use Rattle.printed_history.specs.Histories.{history_in}
use Rattle.printed_run.specs.Tellable.{as_told}

-- The history that a script and words define is told as it is: each frame in it was said where its entry tells.
abbrev pub PlayedIsTold : Type 0
PlayedIsTold =
    (g : Given) (lines : List Line) (history : List Entry) → IsScenario g.scenario →
    are_lines_of g.scenario lines ≡ true
    → are_sayings_of g.scenario g.sayings ≡ true → played g lines ≡ Ok history → as_told g.scenario history ≡ history

-- What the lines of a script and words put into an event is within the program's types.
abbrev pub IsGiven : Event → Type 0
IsGiven (Command op) = FitsOp op
IsGiven (Field area place value) = (place < 2 ^ 16) × (value < 2 ^ 16)
IsGiven (Cry bytes) = IsBytes bytes
IsGiven _ = Unit {0}

-- Its printed text gives it again.
abbrev pub PlayedTextsReadBack : Type 0
PlayedTextsReadBack =
    (g : Given) (lines : List Line) (history : List Entry) → IsScenario g.scenario →
    are_lines_of g.scenario lines ≡ true
    → are_sayings_of g.scenario g.sayings ≡ true → played g lines ≡ Ok history → All (λ e. IsGiven e.event) history
    → history_in g.scenario (text_of g.scenario history) ≡ Ok history
