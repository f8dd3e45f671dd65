-- The key that is held is made and compared with the ring. Where it is the actor's, the seat that it begins is that of the actor
-- before its first event.
use Rattle.std.proofs.Common.{◌≡◌, ◌<◌, ◌↔◌, false, true, Bool, Some, length, sym, refl, ◌∙◌, ap, arith}
use Rattle.std.proofs.lemmas.Bool.{false≢true}
use Rattle.hash_signatures.specs.State.{key_use}
use Rattle.scenario_file.specs.declared.held.HeldKeys.{HeldKeys}
use Rattle.scenario_file.specs.Reading.{contents, with_held}
use Rattle.world_rules.specs.Scenarios.{key_in, HasKey}
use Rattle.world_history.proofs.BenchAtFirst.{levels_given, heights_given}
use Rattle.world_history.proofs.HeldKeys.{held_key_given, own_told, copied_known, copied_own, copied_key}
use Rattle.world_history.proofs.bench.Bench.hold.Goals.{After-is_of_ring-is_own}
use Rattle.world_history.proofs.bench.Bench.hold.Goals as goal

pub own_key-requires-clause-levels : goal.own_key-requires-clause-levels
own_key-requires-clause-levels c =
    levels_given (contents c.args.scenario.now) c.as_slice-heights.result.now c.requires.valid c.as_slice-heights.ensures

pub own_key-requires-clause-heights : goal.own_key-requires-clause-heights
own_key-requires-clause-heights c =
    heights_given (contents c.args.scenario.now) c.as_slice-heights.result.now c.requires.valid
    c.as_slice-heights.ensures

-- the key is the one that is held
key : (c : After-is_of_ring-is_own) →
    c.in_ok-key.key ≡ key_use (key_in (with_held (contents c.args.scenario.now) (Some c.args.held.now)) c.args.actor) 0
key c = held_key_given (contents c.args.scenario.now) c.args.held.now c.args.actor c.as_slice-heights.result.now
    c.in_ok-key.key c.as_slice-heights.ensures c.in_ok-key.ensures.key

pub is_of_ring-is_own-requires : goal.is_of_ring-is_own-requires
is_of_ring-is_own-requires c =
    let long : length c.as_slice.result.now ≡ length c.args.held.now.ring = ap length c.as_slice.ensures in
    let all = c.requires.ring in
    let there = c.requires.there in
    omega arith

-- and it is the actor's, where the ring says so
own : (c : After-is_of_ring-is_own) → (c.is_of_ring-is_own.result ≡ true) ↔ HasKey
    (with_held (contents c.args.scenario.now) (Some c.args.held.now)) c.args.actor
own c = own_told (contents c.args.scenario.now) c.args.held.now c.args.actor c.as_slice.result.now c.in_ok-key.key
    c.is_of_ring-is_own.result c.as_slice.ensures (key c) c.is_of_ring-is_own.ensures

pub returns-then-not-is_own-clause-own : goal.returns-then-not-is_own-clause-own
returns-then-not-is_own-clause-own c =
    let own = own (goal.at.returns-then-not-is_own-clause-own c).After-is_of_ring-is_own in
    (λ some. absurd (false≢true some), λ has. absurd (false≢true (sym c.if-not-is_own.true ∙ own.1 has)))

pub with_key-requires-clause-valid : goal.with_key-requires-clause-valid
with_key-requires-clause-valid c = c.requires.valid

pub with_key-requires-clause-there : goal.with_key-requires-clause-there
with_key-requires-clause-there c = c.requires.there

pub with_key-requires-clause-known : goal.with_key-requires-clause-known
with_key-requires-clause-known c =
    copied_known (contents c.args.scenario.now) c.args.held.now c.in_ok-copy.copy c.in_ok-copy.ensures
    c.in_ok-key.ensures.size c.requires.valid

pub with_key-requires-clause-own : goal.with_key-requires-clause-own
with_key-requires-clause-own c =
    let own = own (goal.at.with_key-requires-clause-own c).After-is_of_ring-is_own in
    copied_own (contents c.args.scenario.now) c.args.held.now c.in_ok-copy.copy c.args.actor c.in_ok-copy.ensures
    (own.0 c.if-not-is_own.false)

pub with_key-requires-clause-key : goal.with_key-requires-clause-key
with_key-requires-clause-key c =
    copied_key (contents c.args.scenario.now) c.args.held.now c.in_ok-copy.copy c.args.actor c.in_ok-key.key
    c.in_ok-copy.ensures (key (goal.at.with_key-requires-clause-key c).After-is_of_ring-is_own)

pub invariant_of-result : goal.invariant_of-result
invariant_of-result c = λ works. c.in_ok-seat.ensures.seated

pub returns-clause-first : goal.returns-clause-first
returns-clause-first c = λ i. record {
  world = (c.in_ok-seat.ensures.world
      ∙ ap (λ (h : HeldKeys). with_held (contents c.args.scenario.now) (Some h)) c.in_ok-copy.ensures) i;
  actor = c.in_ok-seat.ensures.actor i;
  list = c.in_ok-seat.ensures.none i;
  signed = c.in_ok-seat.ensures.unsigned i;
  is_spent = false;
}

pub returns-clause-own : goal.returns-clause-own
returns-clause-own c =
    let own = own (goal.at.returns-clause-own c).After-is_of_ring-is_own in
    (λ some. own.0 c.if-not-is_own.false, λ has. refl)
