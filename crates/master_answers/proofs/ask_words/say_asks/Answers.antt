-- The two asks are of different kinds, so parting the words by kind gives back exactly the one and the other.
-- Both together are what counts as said from then on.
use Rattle.std.proofs.Common.{◌++◌, List, filter, not, refl, sym, ◌∙◌, ap, subst}
use Rattle.message_types.specs.declared.body.Body.{Body}
use Rattle.protocol_rules.specs.Reconcile.{ask_update_due, ask_order_due}
use Rattle.protocol_rules.specs.Master.{waiting_for, gap_of}
use Rattle.reconcile.specs.AskState.{AreAsksOf}
use Rattle.words_by_part.specs.Kinds.{is_of}
use Rattle.words_by_part.proofs.Said.{ask_update_kind, ask_order_kind}
use Rattle.master_answers.specs.Late.{late}
use Rattle.master_answers.proofs.Asking.{words_due}
use Rattle.master_answers.proofs.Splitting.{early_of_two, late_of_two}
use Rattle.master_answers.proofs.ask_words.say_asks.Goals as goal

pub returns-clause-early : goal.returns-clause-early
returns-clause-early c g me known facts ordered said ran order are =
    let due = c.in_ok-words.ensures.bodies g me known said are
    ∙ words_due g known facts said c.args.at_tick c.waiting_for.result c.gap.result
    (c.waiting_for.ensures g _ _ ran) (c.gap.ensures g facts ordered order) in
    c.in_ok-split.ensures.early ∙ ap (filter (λ word. not (is_of late word))) due
    ∙ early_of_two late 16 18 (ask_update_due said c.args.at_tick (waiting_for g known))
    (ask_order_due said c.args.at_tick (gap_of g facts)) refl refl
    (ask_update_kind said c.args.at_tick (waiting_for g known)) (ask_order_kind said c.args.at_tick (gap_of g facts))

pub returns-clause-late : goal.returns-clause-late
returns-clause-late c g me known facts ordered said ran order are =
    let due = c.in_ok-words.ensures.bodies g me known said are
    ∙ words_due g known facts said c.args.at_tick c.waiting_for.result c.gap.result
    (c.waiting_for.ensures g _ _ ran) (c.gap.ensures g facts ordered order) in
    c.in_ok-split.ensures.late ∙ ap (filter (is_of late)) due
    ∙ late_of_two late 16 18 (ask_update_due said c.args.at_tick (waiting_for g known))
    (ask_order_due said c.args.at_tick (gap_of g facts)) refl refl
    (ask_update_kind said c.args.at_tick (waiting_for g known)) (ask_order_kind said c.args.at_tick (gap_of g facts))

pub returns-clause-said : goal.returns-clause-said
returns-clause-said c g me known facts ordered said ran order are =
    let due = c.in_ok-words.ensures.bodies g me known said are
    ∙ words_due g known facts said c.args.at_tick c.waiting_for.result c.gap.result
    (c.waiting_for.ensures g _ _ ran) (c.gap.ensures g facts ordered order) in
    subst (λ (ws : List Body). AreAsksOf g me c.due.new.self known (said ++ ws))
    (due ∙ ap (λ (ws : List Body). ws ++ ask_order_due said c.args.at_tick (gap_of g facts))
    (sym (returns-clause-early c g me known facts ordered said ran order are))
    ∙ ap (λ (ws : List Body). c.in_ok-split.split.early.items ++ ws)
    (sym (returns-clause-late c g me known facts ordered said ran order are)))
    (c.in_ok-words.ensures.counted g me known said are)
