-- The list of what others want is the rules' for the words known, so the gifts made of it are those due. Noting
-- them afterwards keeps later wants free of what was given, as a gift asks for nothing.
use Rattle.std.proofs.Common.{◌++◌, List, sym, ◌∙◌, ap, subst}
use Rattle.std.specs.List.{list_any}
use Rattle.message_types.specs.declared.body.Body.{Body}
use Rattle.reconcile.specs.declared.wanted.Wanted.{Wanted}
use Rattle.reconcile.specs.Asking.{asks}
use Rattle.reconcile.specs.AskState.{AreAsksOf, IsListOfWanted}
use Rattle.master_answers.proofs.giving.say_gifts.Goals as goal

pub returns-clause-gives : goal.returns-clause-gives
returns-clause-gives c = λ g me known said gifts certain is.
    c.in_ok-requests.ensures.due g me known said gifts certain
    (subst (λ (list : List Wanted). IsListOfWanted g me known said list) (sym c.deref.ensures.value)
    (c.in_ok-wanted.ensures g me known said is))

pub returns-clause-orders : goal.returns-clause-orders
returns-clause-orders c = λ g me known facts ordered said gifts certain order is.
    c.in_ok-orders.ensures.due g me known facts ordered said order
    (subst (λ (list : List Wanted). IsListOfWanted g me known said list) (sym c.deref-2.ensures.value)
    (c.in_ok-wanted.ensures g me known said is))

pub returns-clause-given : goal.returns-clause-given
returns-clause-given c = λ g me known said is.
    let first : AreAsksOf g me c.note_given.new.asks known (said ++ c.in_ok-requests.requests.items) =
    subst (λ (xs : List Body). AreAsksOf g me c.note_given.new.asks known (said ++ xs)) c.deref-3.ensures.value
    (c.in_ok-note_given.ensures.ok (λ w. ap (list_any (asks w)) c.deref-3.ensures.value
    ∙ c.in_ok-requests.ensures.no_asks w) g me known said is) in
    subst (λ (xs : List Body). AreAsksOf g me c.note_given-2.new.asks known ((said ++ c.in_ok-requests.requests.items)
    ++ xs)) c.deref-4.ensures.value
    (c.in_ok-note_given-2.ensures.ok (λ w. ap (list_any (asks w)) c.deref-4.ensures.value
    ∙ c.in_ok-orders.ensures.no_asks w) g me known (said ++ c.in_ok-requests.requests.items) first)
