use Rattle.station_rules.proofs.Growing.{answered_is_station, lines_keep_station}
use Rattle.station_rules.proofs.laws.answered_is_station.Goals as goal

pub returns : goal.returns
returns c = record { one = answered_is_station; lines = lines_keep_station }
