-- A station that hasn't given up is what its live part is, whose count is that of the turns in its list and within
-- those of its run.
use Rattle.station_turns.specs.Turns.{stationed}
use Rattle.station_turns.proofs.StationSeen.{count_seen, most_seen}
use Rattle.station_turns.proofs.station.Station.count.Goals as goal

pub returns-clause-made : goal.returns-clause-made
returns-clause-made g c =
    count_seen (stationed c.self.inside.live) c.args.self.now c.self.inside.given_up c.self.inside.live.used
    c.self.inside.live.count g.N.Naming.name c.self.view_is c.self.invariant

pub returns-clause-most : goal.returns-clause-most
returns-clause-most g c =
    most_seen (stationed c.self.inside.live) c.args.self.now c.self.inside.given_up c.self.inside.live.used
    c.self.inside.live.count g.N.Naming.name c.self.view_is c.self.invariant
