use Rattle.std.proofs.Common.{[], take}
use Rattle.printed_history.specs.Reading.{contents_in}
use Rattle.station_lives.specs.Saying.{words_since}
use Rattle.stations.specs.Station.{list_of}
use Rattle.stations.specs.Telling.{Tells}
use Rattle.stations.proofs.station.Station.say_since.Given as goal

-- the words of the entries so far are told
abbrev pub invariant-loop-place : goal.invariant-loop-place
invariant-loop-place l =
    Tells (contents_in l.self.so_far)
    (words_since (contents_in l.self.so_far) l.stamp [] (take l.place (list_of l.self))) l.fn.batch l.batch
