-- What was kept, read line by line into what is at hand of a history. (This project's own.)
use Rattle.std.specs.Prelude.{◌≡◌, List, Result, Ok, Err}
use Rattle.scenario_file.specs.declared.actors.Cast.{Cast}
use Rattle.scenario_file.specs.Reading.{cast_of}
use Rattle.history_rules.specs.Events.{Entry}
use Rattle.printed_history.specs.declared.reading.SoFar.{SoFar}
use Rattle.printed_history.specs.Reading.{HasMore, contents_in}
use Rattle.kept_lines.specs.declared.refusal.KeptRefusal.{KeptRefusal}
use Rattle.kept_lines.specs.Reading.{Reading, Refuses}

-- how many actors of each kind a history's scenario has
abbrev pub cast_in : SoFar → Cast
cast_in r = cast_of (contents_in r).settings (contents_in r).plant

-- the list that was read
abbrev pub list_read : Result SoFar KeptRefusal → Reading (List Entry)
list_read (Ok so_far) = Ok so_far.history
list_read (Err e) = Err e

-- The entry of a line is added, or the line is refused.
abbrev pub Adds : Reading Entry → Result (Unit {0}) KeptRefusal → SoFar → SoFar → Type 0
Adds right (Ok done) old new = (e : Entry) × ((right ≡ Ok e) × HasMore old new e)
Adds right (Err e) old new = Refuses e right
