-- The bench shows what its actor came to.
use Rattle.std.proofs.Common.{◌∙◌, ap}
use Rattle.station_rules.specs.Notes.{reached}
use Rattle.stations.proofs.station.Station.how_far.Goals as goal

pub marks_of-requires : goal.marks_of-requires
marks_of-requires c = ap (λ b. b.is_spent) c.bench-bench.ensures

pub returns : goal.returns
returns c = c.marks_of.ensures ∙ ap reached c.bench-bench.ensures
