-- A scenario lists failing keeper calls for each actor: so a correct master or a client begins with a keeper of
-- its own list, and an intruded master with none.
use Rattle.std.proofs.Common.{◌≡◌, ◌<◌, ◌&&◌, false, ℕ, List, nat_lt, sym, ◌∙◌, ap, arith}
use Rattle.std.specs.Prelude.{Some}
use Rattle.std.specs.Option.{option_copied}
use Rattle.outside.specs.Keepers.{Binder}
use Rattle.quorum_sets.specs.Masters.{has_master}
use Rattle.scenario_file.specs.Reading.{contents}
use Rattle.world_rules.specs.Scenarios.{masters_in}
use Rattle.world_history.proofs.KeptAtFirst.{begins_with_none, begins_with_some, not_intruded, no_master, is_listed}
use Rattle.world_history.proofs.kept_actor.begin.Goals as goal
use Rattle.world_history.proofs.kept_actor.begin.Goals.{else-actor-scenario-via-then-actor-scenario+else-has}
use Rattle.world_history.proofs.kept_actor.begin.Goals.{else-actor-scenario-via-else-actor-scenario}

pub returns-then-has : goal.returns-then-has
returns-then-has c =
    let all = c.args.scenario.now.sizes.all in
    let low : c.args.actor < masters_in (contents c.args.scenario.now) = omega arith in
    begins_with_none (contents c.args.scenario.now) c.args.actor low (sym c.has.ensures ∙ c.if-has.true)

pub unreachable-requires : goal.unreachable-requires
unreachable-requires c =
    is_listed (contents c.args.scenario.now) c.args.actor c.requires.valid c.requires.there
    (sym (ap option_copied c.in_default.is) ∙ c.get.ensures)

pub returns : goal.returns
returns c =
    let all = c.args.scenario.now.sizes.all in
    let other : (nat_lt c.args.actor (masters_in (contents c.args.scenario.now))
    && has_master (contents c.args.scenario.now).settings.intruded c.args.actor) ≡ false =
    elim c.else-actor-scenario.branch [
      | else-actor-scenario-via-then-actor-scenario+else-has w ↦ not_intruded (contents c.args.scenario.now)
          c.args.actor (sym w.has.ensures ∙ w.if-has.false)
      | else-actor-scenario-via-else-actor-scenario w ↦ no_master (contents c.args.scenario.now)
          c.args.actor (omega arith)
    ] in
    ap (λ (k : Binder). Some k) c.make.ensures
    ∙ begins_with_some (contents c.args.scenario.now) c.args.actor c.in_ok-failing.failing.items other
    (ap (λ (v : List ℕ). Some v) (c.in_ok-failing.ensures.items ∙ c.as_slice.ensures) ∙ c.in-Some.ensures)
