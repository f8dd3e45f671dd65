-- Seats and lists of inputs are handed out in the actors' order, so each actor has the next one of both. There
-- are as many lists as actors, so none runs out.
use Rattle.std.proofs.Common.{◌≡◌, ◌+◌, ap, ◌∙◌, length, sym, refl, arith, true≢false}
use Rattle.std.specs.Vec.Iter.{into_iter_items}
use Rattle.std.proofs.lemmas.List.{length_push}
use Rattle.world_rules.specs.Scenarios.{actors_in}
use Rattle.replica_threads.proofs.Seats.{none_seated, next_there, next_inputs, next_fit, one_seated, all_seated, no_places}
use Rattle.replica_threads.proofs.Seats.{one_place}
use Rattle.replica_threads.proofs.seating.places.Goals as goal

pub loop-actor-init : goal.loop-actor-init
loop-actor-init g c = (
  none_seated g.N.Naming.name c.args.stamps.now c.args.first.now 0 c.args.inputs.items
      (into_iter_items c.into_iter-lists.result) refl c.into_iter-lists.ensures.rest c.requires.first c.requires.inputs
      c.requires.fit,
  ap length c.in_ok-places.ensures.items,
  omega (arith, c.into_iter-lists.ensures.len, ap length c.into_iter-lists.ensures.rest, c.args.inputs.ok),
  no_places g.N.Naming.name c.in_ok-places.places.items c.in_ok-places.ensures.items,
)

pub unreachable-requires : goal.unreachable-requires
unreachable-requires g c =
    let many : c.actors-actor-end.result ≡ actors_in g.N.Naming.name.scenario = c.actors-actor-end.ensures.actors
    ∙ ap actors_in c.requires.course.scenario in
    true≢false (sym (c.in_default.ensures.variant.1
    (omega (arith, many, c.loop-actor.invariant.0.all, c.loop-actor.invariant.2, c.loop-actor-test.true))))

pub seated-requires-clause-first : goal.seated-requires-clause-first
seated-requires-clause-first g c = c.loop-actor.invariant.0.first_is

pub seated-requires-clause-there : goal.seated-requires-clause-there
seated-requires-clause-there g c =
    next_there g.N.Naming.name c.args.stamps.now c.loop-actor.first c.loop-actor.actor c.in-Some.list
    (into_iter_items c.loop-actor.lists) (into_iter_items c.next.new.self) c.in-Some.ensures.items
    c.loop-actor.invariant.0

pub seated-requires-clause-inputs : goal.seated-requires-clause-inputs
seated-requires-clause-inputs g c =
    next_inputs g.N.Naming.name c.args.stamps.now c.loop-actor.first c.loop-actor.actor c.in-Some.list
    (into_iter_items c.loop-actor.lists) (into_iter_items c.next.new.self) c.in-Some.ensures.items
    c.loop-actor.invariant.0

pub seated-requires-clause-fit : goal.seated-requires-clause-fit
seated-requires-clause-fit g c =
    next_fit g.N.Naming.name c.args.stamps.now c.loop-actor.first c.loop-actor.actor c.in-Some.list
    (into_iter_items c.loop-actor.lists) (into_iter_items c.next.new.self) c.in-Some.ensures.items
    c.loop-actor.invariant.0 c.requires.fit

pub loop-actor-preserved : goal.loop-actor-preserved
loop-actor-preserved g c = (
  one_seated g.N.Naming.name c.args.stamps.now c.loop-actor.first c.loop-actor.actor c.in-Some.list
      (into_iter_items c.loop-actor.lists) (into_iter_items c.next.new.self) c.in-Some.ensures.items
      c.loop-actor.invariant.0 c.seated.new.first (c.loop-actor.actor + 1) c.seated.ensures.first refl,
  omega (
    arith,
    ap length c.in_ok-push.ensures.items,
    length_push c.loop-actor.places.items c.seated.result,
    c.loop-actor.invariant.1,
  ),
  omega (arith, c.loop-actor.invariant.2, c.in-Some.ensures.len, ap length c.in-Some.ensures.items),
  one_place g.N.Naming.name c.loop-actor.places.items c.push.new.self.items c.seated.result c.loop-actor.invariant.3
      c.seated.ensures.place c.in_ok-push.ensures.items,
)

pub returns-clause-first : goal.returns-clause-first
returns-clause-first g c =
    let many : c.actors-actor-end.result ≡ actors_in g.N.Naming.name.scenario = c.actors-actor-end.ensures.actors
    ∙ ap actors_in c.requires.course.scenario in
    (all_seated g.N.Naming.name c.args.stamps.now c.loop-actor.first c.loop-actor.actor
    (into_iter_items c.loop-actor.lists)
    (omega (arith, many, c.loop-actor.invariant.0.all, c.loop-actor-test.false)) c.loop-actor.invariant.0).1

pub returns-clause-all : goal.returns-clause-all
returns-clause-all g c =
    let many : c.actors-actor-end.result ≡ actors_in g.N.Naming.name.scenario = c.actors-actor-end.ensures.actors
    ∙ ap actors_in c.requires.course.scenario in
    c.loop-actor.invariant.1
    ∙ (all_seated g.N.Naming.name c.args.stamps.now c.loop-actor.first c.loop-actor.actor
    (into_iter_items c.loop-actor.lists)
    (omega (arith, many, c.loop-actor.invariant.0.all, c.loop-actor-test.false)) c.loop-actor.invariant.0).0

pub returns-clause-places : goal.returns-clause-places
returns-clause-places g c = c.loop-actor.invariant.3
