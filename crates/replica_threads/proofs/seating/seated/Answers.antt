-- The first seat has been split once for each actor before, so one more seat is left for this actor, and it
-- bears the actor's number.
use Rattle.std.proofs.Common.{◌≡◌, ◌+◌, refl, ap, ◌∙◌, arith}
use Rattle.stamps.specs.Seats.{Drawer}
use Rattle.replica_threads.proofs.Seats.{seat_split, first_after}
use Rattle.replica_threads.proofs.seating.seated.Goals as goal

pub split-requires-clause-of : goal.split-requires-clause-of
split-requires-clause-of g c = ap (λ (d : Drawer). d.of) c.requires.first

pub split-requires-clause-first : goal.split-requires-clause-first
split-requires-clause-first g c = ap (λ (d : Drawer). d.number) c.requires.first

pub unreachable-requires : goal.unreachable-requires
unreachable-requires g c =
    let made : c.args.first.now.made ≡ c.args.actor + 1 = ap (λ (d : Drawer). d.made) c.requires.first in
    omega (arith, c.in_default.ensures.none.0 refl, made, c.requires.seats, c.requires.there)

pub returns-clause-first : goal.returns-clause-first
returns-clause-first g c = first_after c.args.stamps.now c.args.first.now c.split.new.seat c.args.actor c.requires.first
    c.in-Some.ensures.some.1

pub returns-clause-place : goal.returns-clause-place
returns-clause-place g c = record {
  there = c.requires.there;
  number = seat_split c.args.stamps.now c.args.first.now c.in-Some.seat c.args.actor c.requires.first
      c.in-Some.ensures.some.0;
  source = ap (λ (d : Drawer). d.of) c.in-Some.ensures.some.0 ∙ c.requires.source;
  inputs = c.requires.inputs;
  fit = c.requires.fit;
}
