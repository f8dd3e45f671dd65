use Rattle.scenario_file.specs.Reading.{contents}
use Rattle.station_turns.proofs.StationSeen.{begins_station}
use Rattle.station_turns.proofs.station.Station.make.Goals as goal

pub invariant_of-result : goal.invariant_of-result
invariant_of-result g c working =
    begins_station g.N.Naming.name (contents c.args.scenario.now) c.args.actor c.args.turns c.args.seat
    c.args.inputs.items c.in_ok-kept.kept c.in_ok-kept.ensures c.requires.there c.requires.scenario
    c.requires.number c.requires.source c.requires.inputs c.requires.fit c.requires.turns
