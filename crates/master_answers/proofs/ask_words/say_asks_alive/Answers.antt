-- The asks for requests are said first. They are none for numbers, so those due after them are those due before. Both
-- together are what counts as said from then on.
use Rattle.std.proofs.Common.{◌≡◌, ℕ, ◌++◌, List, [], ◌∙◌, ap, subst, append_assoc}
use Rattle.message_types.specs.declared.signed.Signed.{Signed}
use Rattle.message_types.specs.declared.body.Body.{Body}
use Rattle.protocol_rules.specs.Group.{Group}
use Rattle.reconcile.specs.AskState.{AreAsksOf}
use Rattle.reconcile.specs.Again.{asks_again_due}
use Rattle.master_answers.proofs.Asking.{numbers_still_due, where_so}
use Rattle.master_answers.proofs.ask_words.say_asks_alive.Goals as goal

module _ (c : goal.In_ok-late) (g : Group) (me : ℕ) (known : List (Signed Body)) (said : List Body)
    (are : AreAsksOf g me c.args.asks.now known said) where
  early_due : c.in_ok-early.early.items ≡ asks_again_due said c.args.now c.args.lacking.now.requests.items 16
  early_due = c.in_ok-early.ensures.bodies g me known said are
      ∙ ap (λ list. asks_again_due said c.args.now list 16) c.deref.ensures.value

  then : AreAsksOf g me c.due_again.new.self known (said ++ c.in_ok-early.early.items)
  then = c.in_ok-early.ensures.counted g me known said are

  late_due : c.in_ok-late.late.items ≡ asks_again_due said c.args.now c.args.lacking.now.numbers.items 64
  late_due = c.in_ok-late.ensures.bodies g me known (said ++ c.in_ok-early.early.items) then
      ∙ ap (λ list. asks_again_due (said ++ c.in_ok-early.early.items) c.args.now list 64) c.deref-2.ensures.value
      ∙ numbers_still_due said c.in_ok-early.early.items c.args.now 16 c.args.lacking.now.requests.items
      c.args.lacking.now.numbers.items c.requires.requests c.requires.numbers early_due

pub returns-clause-early : goal.returns-clause-early
returns-clause-early c = λ g me known said are.
    where_so c.args.at_tick _ [] _ c.if-not-at_tick.false (early_due c g me known said are)

pub returns-clause-late : goal.returns-clause-late
returns-clause-late c = λ g me known said are.
    where_so c.args.at_tick _ [] _ c.if-not-at_tick.false (late_due c g me known said are)

pub returns-clause-said : goal.returns-clause-said
returns-clause-said c = λ g me known said are.
    subst (λ (ws : List Body). AreAsksOf g me c.due_again-2.new.self known ws)
    (append_assoc said c.in_ok-early.early.items c.in_ok-late.late.items)
    (c.in_ok-late.ensures.counted g me known (said ++ c.in_ok-early.early.items) (then c g me known said are))
