-- The station counts as given up while a turn is made, so want of memory leaves it so. A turn that ends well
-- keeps entries, inputs and stamps together as they have to be, and the count rises by one.
use Rattle.std.proofs.Common.{sym, ◌∙◌, ap}
use Rattle.std.proofs.lemmas.Bool.{true≢false}
use Rattle.station_turns.specs.Turns.{Stationed, stationed}
use Rattle.station_turns.proofs.StationSeen.{asked_running, asked_left, asked_stands, turned_seen, of_turned, stand_seen}
use Rattle.station_turns.proofs.StationSeen.{own_before, own_after}
use Rattle.station_turns.proofs.WordTold.{there_told, made_told}
use Rattle.station_turns.proofs.station.Station.turn.Goals as goal

pub turn-requires-clause-alive : goal.turn-requires-clause-alive
turn-requires-clause-alive g c = (c.self.invariant c.if-self.false).0

pub turn-requires-clause-scenario : goal.turn-requires-clause-scenario
turn-requires-clause-scenario g c = c.requires.scenario ∙ sym (c.self.invariant c.if-self.false).1.world

pub turn-requires-clause-of : goal.turn-requires-clause-of
turn-requires-clause-of g c = (c.self.invariant c.if-self.false).1.source ∙ sym c.requires.of

pub turn-requires-clause-running : goal.turn-requires-clause-running
turn-requires-clause-running g c = asked_running (stationed c.self.inside.live) c.args.self.now c.self.inside.given_up
    c.self.view_is c.if-self.false c.requires.running

pub turn-requires-clause-left : goal.turn-requires-clause-left
turn-requires-clause-left g c =
    asked_left (stationed c.self.inside.live) c.args.self.now c.self.inside.given_up c.self.inside.live.used
    c.self.inside.live.count g.N.Naming.name c.self.view_is c.if-self.false
    (c.self.invariant c.if-self.false).0 (c.self.invariant c.if-self.false).1 c.requires.left

pub turn-requires-clause-stands : goal.turn-requires-clause-stands
turn-requires-clause-stands g c = asked_stands (stationed c.self.inside.live) g.N.Naming.name c.args.held
    (c.self.invariant c.if-self.false).1 c.requires.stands

pub returns-clause-turns : goal.returns-clause-turns
returns-clause-turns g c =
    turned_seen (stationed c.self.inside.live) c.args.self.now (stationed c.turn.new.live) c.self.inside.given_up
    c.args.held c.in_ok-turned.turned c.self.view_is c.if-self.false c.in_ok-turned.ensures.turns

pub returns-clause-stand : goal.returns-clause-stand
returns-clause-stand g c =
    stand_seen (stationed c.self.inside.live) g.N.Naming.name c.in_ok-turned.turned.cried
    c.in_ok-turned.turned.frames.items (c.self.invariant c.if-self.false).1 c.in_ok-turned.ensures.stand

pub returns-clause-there : goal.returns-clause-there
returns-clause-there g c =
    there_told g.N.Naming.name (stationed c.self.inside.live) (stationed c.turn.new.live)
    c.args.held c.in_ok-turned.turned c.in_ok-turned.ensures.turns (c.self.invariant c.if-self.false).1

pub returns-clause-whose : goal.returns-clause-whose
returns-clause-whose g c = (
  own_before (stationed c.self.inside.live) c.args.self.now c.self.inside.given_up c.self.inside.live.used
      c.self.inside.live.count g.N.Naming.name c.self.view_is (c.self.invariant c.if-self.false).0
      (c.self.invariant c.if-self.false).1,
  own_after g.N.Naming.name c.args.self.now (stationed c.turn.new.live) c.args.held c.in_ok-turned.turned
      c.turn.new.live.used c.turn.new.live.count
      (turned_seen (stationed c.self.inside.live) c.args.self.now (stationed c.turn.new.live) c.self.inside.given_up
      c.args.held c.in_ok-turned.turned c.self.view_is c.if-self.false c.in_ok-turned.ensures.turns)
      c.in_ok-turned.ensures.alive
      (of_turned g.N.Naming.name (stationed c.self.inside.live) (stationed c.turn.new.live)
      c.args.held c.in_ok-turned.turned c.in_ok-turned.ensures.turns (c.self.invariant c.if-self.false).1),
)

pub returns-clause-made : goal.returns-clause-made
returns-clause-made g c =
    made_told c.args.self.now (stationed c.turn.new.live) c.args.held c.in_ok-turned.turned
    (turned_seen (stationed c.self.inside.live) c.args.self.now (stationed c.turn.new.live) c.self.inside.given_up
    c.args.held c.in_ok-turned.turned c.self.view_is c.if-self.false c.in_ok-turned.ensures.turns)

pub returns-clause-spent : goal.returns-clause-spent
returns-clause-spent g c spent =
    absurd (true≢false (sym spent ∙ sym (ap (λ (x : Stationed). x.given_up) c.self.view_is) ∙ c.if-self.false))

pub invariant_of-self : goal.invariant_of-self
invariant_of-self g c working = absurd (true≢false working)

pub invariant_of-self-2 : goal.invariant_of-self-2
invariant_of-self-2 g c working = (
  c.in_ok-turned.ensures.alive,
  of_turned g.N.Naming.name (stationed c.self.inside.live) (stationed c.turn.new.live)
      c.args.held c.in_ok-turned.turned c.in_ok-turned.ensures.turns (c.self.invariant c.if-self.false).1,
)
