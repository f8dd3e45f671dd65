-- By the seed an actor has its key, and by a key that is held where that is the actor's.
use Rattle.std.proofs.Common.{Option, Some, None, IfOk, IfSome, refl, sym, subst}
use Rattle.std.specs.Borrow.{Bor}
use Rattle.scenario_file.specs.declared.held.HeldKeys.{HeldKeys}
use Rattle.world_rules.specs.Scenarios.{HasKey}
use Rattle.world_rules.proofs.Fields.{seed_has_keys}
use Rattle.printed_history.specs.Reading.{IsBegun, known_by}
use Rattle.stations.proofs.Begun.{HasBegun}
use Rattle.stations.proofs.beginning.before_first.Goals as goal

pub hold-requires-clause-ring : goal.hold-requires-clause-ring
hold-requires-clause-ring c = rw c.in-Some.is at c.requires.ring

pub returns-in-Some-clause-begun : goal.returns-in-Some-clause-begun
returns-in-Some-clause-begun c =
    subst (λ (held : Option (Bor HeldKeys)). IfOk c.hold.result
    (λ found. IfSome found (IsBegun (known_by c.args.scenario.now held) (Some c.args.actor)))) (sym c.in-Some.is)
    c.hold.ensures.begun

pub returns-in-Some-clause-own : goal.returns-in-Some-clause-own
returns-in-Some-clause-own c =
    subst (λ (held : Option (Bor HeldKeys)). HasBegun c.hold.result (known_by c.args.scenario.now held) c.args.actor)
    (sym c.in-Some.is) c.hold.ensures.own

pub returns-in_ok-begin_one-in-None-clause-begun : goal.returns-in_ok-begin_one-in-None-clause-begun
returns-in_ok-begin_one-in-None-clause-begun c =
    subst (λ (held : Option (Bor HeldKeys)). IsBegun (known_by c.args.scenario.now held) (Some c.args.actor)
    c.in_ok-begin_one-in-None.field-0) (sym c.in-None.is) c.in_ok-begin_one-in-None.ensures

pub returns-in_ok-begin_one-in-None-clause-own : goal.returns-in_ok-begin_one-in-None-clause-own
returns-in_ok-begin_one-in-None-clause-own c = (
  λ some. subst (λ (held : Option (Bor HeldKeys)). HasKey (known_by c.args.scenario.now held) c.args.actor)
      (sym c.in-None.is) (seed_has_keys (known_by c.args.scenario.now None) c.args.actor refl),
  λ has. refl,
)
