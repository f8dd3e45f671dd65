-- A tick and another event differ in the count of ticks alone.
use Rattle.std.proofs.Common.{◌+◌, cond, ◌∙◌, sym, ap, subst}
use Rattle.suspect_leader.specs.MeasureState.{IsTold}
use Rattle.master_knowledge.proofs.Events.{told_event, none_more}
use Rattle.master_knowledge.proofs.measure_words.tell_measure.Goals as goal

pub returns-in_ok-tick-clause-ticks : goal.returns-in_ok-tick-clause-ticks
returns-in_ok-tick-clause-ticks c =
    c.tick.ensures.ticks ∙ ap (λ b. c.args.measure.now.ticks + cond b 1 0) (sym c.if-at_tick.true)

pub returns-in_ok-tick-clause-told : goal.returns-in_ok-tick-clause-told
returns-in_ok-tick-clause-told c =
    subst (λ b. IsTold c.args.measure.now c.tick.new.self (told_event b c.args.view c.args.waits))
    (sym c.if-at_tick.true) c.tick.ensures.told

pub returns-else-at_tick-clause-ticks : goal.returns-else-at_tick-clause-ticks
returns-else-at_tick-clause-ticks c =
    c.still.ensures.ticks ∙ none_more c.args.measure.now.ticks
    ∙ ap (λ b. c.args.measure.now.ticks + cond b 1 0) (sym c.if-at_tick.false)

pub returns-else-at_tick-clause-told : goal.returns-else-at_tick-clause-told
returns-else-at_tick-clause-told c =
    subst (λ b. IsTold c.args.measure.now c.still.new.self (told_event b c.args.view c.args.waits))
    (sym c.if-at_tick.false) c.still.ensures.told
