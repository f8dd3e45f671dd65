-- The station is what its live part is, whose actor is there while it isn't given up.
use Rattle.std.proofs.Common.{ℕ, ◌<◌, ◌∙◌, ap, subst, sym}
use Rattle.world_rules.specs.Scenarios.{actors_in}
use Rattle.world_history.specs.State.{BenchState}
use Rattle.station_turns.specs.Turns.{stationed}
use Rattle.station_turns.proofs.StationSeen.{whose_seen, there_seen}
use Rattle.station_turns.proofs.station.Station.actor.Goals as goal

pub returns-clause-whose : goal.returns-clause-whose
returns-clause-whose g c =
    c.actor.ensures
    ∙ ap (λ (b : BenchState). b.actor) c.bench.ensures.bench
    ∙ whose_seen (stationed c.self.inside.live) c.args.self.now c.self.inside.given_up c.self.view_is

pub returns-clause-there : goal.returns-clause-there
returns-clause-there g c working =
    subst (λ (a : ℕ). a < actors_in g.N.Naming.name.scenario)
    (sym (c.actor.ensures
    ∙ ap (λ (b : BenchState). b.actor) c.bench.ensures.bench
    ∙ whose_seen (stationed c.self.inside.live) c.args.self.now c.self.inside.given_up c.self.view_is))
    (there_seen (stationed c.self.inside.live) c.args.self.now c.self.inside.given_up c.self.inside.live.used
    c.self.inside.live.count g.N.Naming.name c.self.view_is c.self.invariant working)
