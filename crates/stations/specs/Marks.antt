-- How far an actor had come, as a station remembers it while an entry is made. (This project's own.)
use Rattle.station_rules.specs.Notes.{Reached}
use Rattle.stations.specs.declared.notes.Marks.{Marks}

abbrev pub reached_by : Marks → Reached
reached_by m = record { view = m.view; executed = m.executed; writes = m.writes; notices = m.notices }
