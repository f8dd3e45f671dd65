use Rattle.station_turns.specs.Turns.{stationed}
use Rattle.station_turns.proofs.StationSeen.{halt_seen}
use Rattle.station_turns.proofs.station.Station.halted.Goals as goal

pub returns : goal.returns
returns g c =
    halt_seen (stationed c.self.inside.live) c.args.self.now c.self.inside.given_up c.self.inside.live.used
    c.self.inside.live.count g.N.Naming.name c.halted.result c.self.view_is c.self.invariant
    c.halted.ensures
