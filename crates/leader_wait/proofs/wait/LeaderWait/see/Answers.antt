-- One moment more: its demand joins those of its view, and its ticks count.
use Rattle.std.proofs.Common.{◌≡◌, ◌+◌, ◌<◌, nat_eq, refl, sym, ◌∙◌, ap, subst, arith}
use Rattle.quorum_sets.proofs.MastersLemmas.{bool_byte-cond}
use Rattle.leader_wait.specs.Waiting.{Waiting, IsWaitOf, IsInTime, noted}
use Rattle.leader_wait.proofs.Stretches.{seen, in_time, few_ticks}
use Rattle.leader_wait.proofs.wait.LeaderWait.see.Goals as goal

pub invariant_of-self-2 : goal.invariant_of-self-2
invariant_of-self-2 c = (
  few_ticks c.args.at_tick c.self.inside.ticks c.from.result 4294967296
      (c.from.ensures ∙ bool_byte-cond c.args.at_tick) c.self.invariant.0
      (λ ticks. let before : c.args.self.now.ticks < 4294967296 = c.requires ticks in
      let same : c.self.inside.ticks ≡ c.args.self.now.ticks = ap (λ (w : Waiting). w.ticks) c.self.view_is in
      omega arith),
  subst (IsInTime (c.self.inside.ticks + c.from.result))
      (sym (c.note.ensures ∙ ap (λ ds. noted (nat_eq c.args.view c.self.inside.view) ds
      record { before = c.self.inside.ticks; eligible = c.args.eligible.now }) c.reserve.ensures.items))
      (in_time c.self.inside.ticks c.from.result (nat_eq c.args.view c.self.inside.view) c.self.inside.demands.items
      record { before = c.self.inside.ticks; eligible = c.args.eligible.now } c.self.invariant.1 refl),
)

pub returns-clause-told : goal.returns-clause-told
returns-clause-told c g ordered moments m is_moment is =
    seen g _ _ ordered moments m c.args.at_tick c.args.view c.args.eligible.now.numbers
    record { before = c.self.inside.ticks; eligible = c.args.eligible.now } c.self.invariant.1 refl refl refl
    (ap (λ t. c.self.inside.ticks + t) (c.from.ensures ∙ bool_byte-cond c.args.at_tick)) refl
    (c.note.ensures ∙ ap (λ ds. noted (nat_eq c.args.view c.self.inside.view) ds
    record { before = c.self.inside.ticks; eligible = c.args.eligible.now }) c.reserve.ensures.items)
    is_moment (subst (λ (old : Waiting). IsWaitOf g old ordered moments) (sym c.self.view_is) is)
