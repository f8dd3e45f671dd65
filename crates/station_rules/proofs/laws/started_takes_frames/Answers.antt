use Rattle.station_rules.proofs.Starting.{started_has_entry, frames_are_taken}
use Rattle.station_rules.proofs.laws.started_takes_frames.Goals as goal

pub returns : goal.returns
returns c = record { started = started_has_entry; takes = frames_are_taken }
