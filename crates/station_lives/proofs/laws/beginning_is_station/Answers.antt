use Rattle.station_lives.proofs.Beginnings.{none_is_station, beginning_is_station, station_is_own}
use Rattle.station_lives.proofs.laws.beginning_is_station.Goals as goal

pub returns : goal.returns
returns c = record { none = none_is_station; beginning = beginning_is_station; own = station_is_own }
