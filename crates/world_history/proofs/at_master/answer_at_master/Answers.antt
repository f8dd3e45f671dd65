-- A frame or a tick is answered by the node, and at a skip or a restart nothing is heard or said. The other
-- events aren't a master's, so they can't come here.
use Rattle.std.proofs.Common.{refl, sym, ◌∙◌, ap}
use Rattle.message_types.specs.declared.signed.Signed.{Signed}
use Rattle.message_types.specs.declared.body.Body.{Body}
use Rattle.history_rules.specs.Events.{Took, Tick}
use Rattle.world_entries.specs.Entries.{event_of}
use Rattle.world_history.proofs.MasterEntry.{both_on_ok, answered_by}
use Rattle.world_history.proofs.at_master.answer_at_master.Goals as goal

pub returns-in-Took-clause-answered : goal.returns-in-Took-clause-answered
returns-in-Took-clause-answered c = both_on_ok c.hear.result c.hear.ensures.spoken c.hear.ensures.working
    (λ spoken works charge before is.
    answered_by charge before (event_of c.args.event.now) (Took c.in-Took.stamp c.in-Took.place c.frame.result.now)
    c.hear.new.self
    (ap event_of c.in-Took.is ∙ ap (λ (f : Signed Body). Took c.in-Took.stamp c.in-Took.place f)
    (sym c.frame.ensures.frame)) refl works (spoken charge before is))

pub returns-in-Tick-clause-answered : goal.returns-in-Tick-clause-answered
returns-in-Tick-clause-answered c = both_on_ok c.tick.result c.tick.ensures.spoken c.tick.ensures.working
    (λ spoken works charge before is.
    answered_by charge before (event_of c.args.event.now) Tick c.tick.new.self (ap event_of c.in-Tick.is) refl works
    (spoken charge before is))
