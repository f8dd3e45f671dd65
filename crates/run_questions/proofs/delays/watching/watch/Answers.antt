-- The bench shows how far its actor had come before the entry, and what it came to there.
use Rattle.std.proofs.Common.{◌∙◌, ap, length, subst, sym}
use Rattle.std.proofs.lemmas.Result.{on_ok_weaker}
use Rattle.history_rules.specs.Legal.{TakesWell}
use Rattle.world_entries.specs.Entries.{entry_of, event_of}
use Rattle.world_history.specs.State.{setup_in, with_entry}
use Rattle.run_questions.proofs.Watched.{between_benches}
use Rattle.run_questions.proofs.delays.watching.watch.Goals as goal

pub act-requires-clause-fits : goal.act-requires-clause-fits
act-requires-clause-fits c =
    ap (λ e. (setup_in c.args.bench.now).fits c.args.bench.now.actor (event_of e)) c.in_ok-event.ensures
    ∙ c.requires.fits

pub act-requires-clause-taken : goal.act-requires-clause-taken
act-requires-clause-taken c =
    subst (λ e. TakesWell (setup_in c.args.bench.now) c.args.entry.now.stamp (event_of e))
    (sym c.in_ok-event.ensures) c.requires.taken

pub add_happened-requires : goal.add_happened-requires
add_happened-requires c = ap (λ b. b.is_spent) c.in_ok-act.ensures.entry ∙ c.requires.works

pub returns-clause-bench : goal.returns-clause-bench
returns-clause-bench c =
    on_ok_weaker c.add_happened.result
    (λ made. c.in_ok-act.ensures.entry
    ∙ ap (λ e. with_entry c.args.bench.now c.args.entry.now.stamp (event_of e)) c.in_ok-event.ensures)
    c.add_happened.ensures

pub returns-clause-happened : goal.returns-clause-happened
returns-clause-happened c =
    on_ok_weaker c.add_happened.result
    (λ made. between_benches c.args.bench.now c.act.new.self (entry_of c.args.entry.now) (length c.executions.result.now)
    (length c.board.result.now) c.view.result c.args.happened.now.items _
    (ap length (c.executions.ensures c.requires.works)) (ap length (c.board.ensures c.requires.works))
    (c.view.ensures c.requires.works) made)
    c.add_happened.ensures
