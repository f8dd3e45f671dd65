-- Only who passes each test in turn gets to the end, and each tells one clause of the bench that is kept.
use Rattle.std.proofs.Common.{◌≡◌, true, List, length, nat_lt, sym, ◌∙◌, ap, subst, arith}
use Rattle.std.specs.List.{list_all}
use Rattle.history_rules.specs.Events.{Entry}
use Rattle.world_entries.specs.Entries.{event_of, entry_of}
use Rattle.world_history.specs.State.{BenchState, setup_in}
use Rattle.history_tests.proofs.kept.may_act.Goals as goal

pub returns-clause-running : goal.returns-clause-running
returns-clause-running c is = sym (c.halted.ensures c.requires) ∙ c.if-halted.false

pub returns-clause-fits : goal.returns-clause-fits
returns-clause-fits c is =
    subst (λ (b : BenchState). (setup_in b).fits b.actor (event_of c.args.event.now) ≡ true)
    c.bench-bench.ensures.bench (sym c.fits.ensures ∙ c.if-not-fits.false)

pub returns-clause-later : goal.returns-clause-later
returns-clause-later c is =
    ap (list_all (λ (e : Entry). nat_lt e.stamp c.args.stamp))
    (sym (c.list-list.ensures ∙ ap (λ (b : BenchState). b.list) c.bench-bench.ensures.bench))
    ∙ sym c.is_later.ensures ∙ c.if-not-is_later.false
