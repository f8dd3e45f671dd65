-- A station that hasn't given up is what its live part is, which is alive and belongs to the run.
use Rattle.station_turns.specs.Turns.{stationed}
use Rattle.station_turns.proofs.StationSeen.{lives_seen}
use Rattle.station_turns.proofs.station.Station.parted.Goals as goal

pub returns-clause-alive : goal.returns-clause-alive
returns-clause-alive g c working =
    (lives_seen (stationed c.self.inside.live) c.args.self c.self.inside.given_up c.self.inside.live.used
    c.self.inside.live.count g.N.Naming.name c.self.view_is c.self.invariant working).0

pub returns-clause-run : goal.returns-clause-run
returns-clause-run g c working =
    (lives_seen (stationed c.self.inside.live) c.args.self c.self.inside.given_up c.self.inside.live.used
    c.self.inside.live.count g.N.Naming.name c.self.view_is c.self.invariant working).1
