-- As under the rules first specified: the two votes come early and the marks late, which are of three kinds, and words
-- of other kinds said beside them don't count.
use Rattle.std.proofs.Common.{filter, not, refl, sym, ◌∙◌, ap}
use Rattle.protocol_rules.specs.Order.{commits_due, marks_due}
use Rattle.protocol_rules.specs.Worth.{worthy_prepares_due}
use Rattle.words_by_part.specs.Kinds.{is_of}
use Rattle.words_by_part.proofs.Said.{commits_kind, marks_kind}
use Rattle.words_by_part.proofs.SaidAlive.{worthy_prepares_kind}
use Rattle.master_answers.specs.Late.{late}
use Rattle.master_answers.proofs.Orders.{words_said}
use Rattle.master_answers.proofs.Splitting.{early_of_three, late_of_three}
use Rattle.master_answers.proofs.order_words.say_orders_alive.Goals as goal

pub returns-clause-early : goal.returns-clause-early
returns-clause-early c g facts said is sizes tells =
    c.in_ok-split.ensures.early ∙ ap (filter (λ word. not (is_of late word)))
    (c.in_ok-words.ensures.due g facts said is sizes tells)
    ∙ early_of_three late 6 7 21 (worthy_prepares_due g facts said c.args.view c.args.is_open)
    (commits_due g facts said c.args.view) (marks_due g facts said) refl refl refl
    (worthy_prepares_kind g facts said c.args.view c.args.is_open) (commits_kind g facts said c.args.view)
    (marks_kind g facts said)

pub returns-clause-late : goal.returns-clause-late
returns-clause-late c g facts said is sizes tells =
    c.in_ok-split.ensures.late ∙ ap (filter (is_of late)) (c.in_ok-words.ensures.due g facts said is sizes tells)
    ∙ late_of_three late 6 7 21 (worthy_prepares_due g facts said c.args.view c.args.is_open)
    (commits_due g facts said c.args.view) (marks_due g facts said) refl refl refl
    (worthy_prepares_kind g facts said c.args.view c.args.is_open) (commits_kind g facts said c.args.view)
    (marks_kind g facts said)

pub returns-clause-said : goal.returns-clause-said
returns-clause-said c g facts said is all sizes tells own =
    words_said g c.due_worthy.new.order facts said all _
    (own ∙ sym (c.in_ok-words.ensures.due g facts said is sizes tells))
    (c.in_ok-words.ensures.said g facts said is)
