-- The demands of which all is ordered go, and the first that is left tells the wait.
use Rattle.std.proofs.Common.{get_or, refl, sym, ◌∙◌, ap, subst}
use Rattle.protocol_rules.specs.Patience.{wait}
use Rattle.leader_wait.specs.Waiting.{Waiting, IsWaitOf, is_unmet}
use Rattle.leader_wait.proofs.Stretches.{left, waited_now, in_time_kept}
use Rattle.leader_wait.proofs.wait.LeaderWait.ticks.Goals as goal

pub since_first-requires : goal.since_first-requires
since_first-requires c = in_time_kept (is_unmet c.self.inside.sizes.n (λ j. get_or c.args.reach.now.numbers j 0))
    c.self.inside.ticks c.self.inside.demands.items c.leave_met.new.demands.items c.leave_met.ensures
    c.self.invariant.1

pub invariant_of-self : goal.invariant_of-self
invariant_of-self c = (
  c.self.invariant.0,
  in_time_kept (is_unmet c.self.inside.sizes.n (λ j. get_or c.args.reach.now.numbers j 0)) c.self.inside.ticks
      c.self.inside.demands.items c.leave_met.new.demands.items c.leave_met.ensures c.self.invariant.1,
)

pub returns-clause-waiting : goal.returns-clause-waiting
returns-clause-waiting c g ordered moments is told =
    let own : IsWaitOf g _ ordered moments =
    subst (λ (old : Waiting). IsWaitOf g old ordered moments) (sym c.self.view_is) is in
    c.since_first.ensures
    ∙ waited_now g _ c.args.reach.now.numbers ordered moments c.leave_met.new.demands.items c.leave_met.ensures told own
    ∙ ap (λ (w : Waiting). wait g w.view ordered moments) c.self.view_is

pub returns-clause-kept : goal.returns-clause-kept
returns-clause-kept c g ordered moments told is =
    left g _ _ c.args.reach.now.numbers ordered moments refl refl refl c.leave_met.ensures told
    (subst (λ (old : Waiting). IsWaitOf g old ordered moments) (sym c.self.view_is) is)
