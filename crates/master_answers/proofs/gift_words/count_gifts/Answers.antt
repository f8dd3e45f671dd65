-- Gifts ask for nothing, so noting both lists one after the other counts them as given.
use Rattle.std.proofs.Common.{List, ◌++◌, ◌∙◌, ap, subst, append_assoc}
use Rattle.std.specs.List.{list_any}
use Rattle.message_types.specs.declared.body.Body.{Body}
use Rattle.reconcile.specs.Asking.{asks}
use Rattle.reconcile.specs.AskState.{AreAsksOf}
use Rattle.master_answers.proofs.gift_words.count_gifts.Goals as goal

pub returns-clause-given : goal.returns-clause-given
returns-clause-given c = λ none none_too g me known said is.
    let gives = c.args.gifts.now.gives.items in
    let orders = c.args.gifts.now.orders.items in
    let first : AreAsksOf g me c.note_given.new.asks known (said ++ gives) =
    subst (λ (xs : List Body). AreAsksOf g me c.note_given.new.asks known (said ++ xs)) c.deref.ensures.value
    (c.in_ok-note_given.ensures.ok (λ w. ap (list_any (asks w)) c.deref.ensures.value ∙ none w) g me known said is) in
    subst (λ (xs : List Body). AreAsksOf g me c.note_given-2.new.asks known xs) (append_assoc said gives orders)
    (subst (λ (xs : List Body). AreAsksOf g me c.note_given-2.new.asks known ((said ++ gives) ++ xs))
    c.deref-2.ensures.value
    (c.in_ok-note_given-2.ensures.ok (λ w. ap (list_any (asks w)) c.deref-2.ensures.value ∙ none_too w) g me known
    (said ++ gives) first))
