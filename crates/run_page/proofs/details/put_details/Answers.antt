-- The bench shows how far its actor had come before the entry, and how far after it.
use Rattle.std.proofs.Common.{◌∙◌, ap, subst, sym}
use Rattle.std.specs.Prelude.{string_bytes}
use Rattle.std.proofs.lemmas.Result.{on_ok_weaker}
use Rattle.history_rules.specs.Legal.{TakesWell}
use Rattle.world_entries.specs.Entries.{entry_of, event_of}
use Rattle.world_history.specs.State.{setup_in, with_entry}
use Rattle.run_page.proofs.Told.{details_put}
use Rattle.run_page.proofs.details.put_details.Goals as goal

pub act-requires-clause-fits : goal.act-requires-clause-fits
act-requires-clause-fits c =
    ap (λ e. (setup_in c.args.bench.now).fits c.args.bench.now.actor (event_of e)) c.in_ok-event.ensures
    ∙ c.requires.fits

pub act-requires-clause-taken : goal.act-requires-clause-taken
act-requires-clause-taken c =
    subst (λ e. TakesWell (setup_in c.args.bench.now) c.args.entry.now.stamp (event_of e))
    (sym c.in_ok-event.ensures) c.requires.taken

pub of-requires : goal.of-requires
of-requires c = ap (λ b. b.is_spent) c.in_ok-act.ensures.entry ∙ c.requires.works

pub returns-clause-bench : goal.returns-clause-bench
returns-clause-bench c =
    on_ok_weaker c.put_came.result
    (λ made. c.in_ok-act.ensures.entry
    ∙ ap (λ e. with_entry c.args.bench.now c.args.entry.now.stamp (event_of e)) c.in_ok-event.ensures)
    c.put_came.ensures

pub returns-clause-text : goal.returns-clause-text
returns-clause-text c =
    on_ok_weaker c.put_came.result
    (λ made. details_put c.args.cast c.args.bench.now c.act.new.self (entry_of c.args.entry.now) c.of-before.result c.of.result
    (string_bytes c.args.text.now) _ _ c.of-before.ensures c.of.ensures c.in_ok-put_words.ensures made)
    c.put_came.ensures
