-- An ask is due at a tick where the thing is wanted and wasn't asked for yet. Request and number are different
-- things, so the one ask never hides the other, and both count as said from then on.
use Rattle.std.proofs.Common.{◌++◌, ◌||◌, List, ap, ◌∙◌}
use Rattle.message_types.specs.declared.body.Body.{Body}
use Rattle.protocol_rules.specs.Reconcile.{ask_update_due}
use Rattle.reconcile.specs.Asking.{is_among}
use Rattle.reconcile.specs.AskState.{AskState, request_at, new_ask, asks_for, is_one}
use Rattle.reconcile.proofs.Said.{request_due, number_due, asks_said, two_pushed}
use Rattle.reconcile.proofs.asks.Asks.due.Goals as goal

pub returns-clause-bodies : goal.returns-clause-bodies
returns-clause-bodies c = λ g me known said is.
    two_pushed c.not_asked-request.result c.not_asked-number.result _ _ _ c.new-bodies.ensures.items
    c.in_ok-push_ask.ensures c.in_ok-push_ask-2.ensures
    ∙ ap (λ (xs : List Body). xs ++ asks_for c.not_asked-number.result)
    (ap asks_for (c.not_asked-request.ensures ∙ ap (new_ask c.args.at_tick c.args.self.now.asked)
    c.wanted_request.ensures) ∙ request_due g me c.args.self.now known said c.args.at_tick c.args.waiting is)
    ∙ ap (λ (xs : List Body). ask_update_due said c.args.at_tick (request_at c.args.waiting) ++ xs)
    (ap asks_for (c.not_asked-number.ensures ∙ ap (new_ask c.args.at_tick c.args.self.now.asked)
    c.wanted_number.ensures) ∙ number_due g me c.args.self.now known said c.args.at_tick c.args.gap is)

pub returns-clause-counted : goal.returns-clause-counted
returns-clause-counted c = λ g me known said is.
    asks_said g me c.args.self.now _ known said c.not_asked-request.result c.not_asked-number.result _
    (two_pushed c.not_asked-request.result c.not_asked-number.result _ _ _ c.new-bodies.ensures.items
    c.in_ok-push_ask.ensures c.in_ok-push_ask-2.ensures)
    (ap (λ (v : AskState). v.masters) c.self.view_is) (ap (λ (v : AskState). v.me) c.self.view_is)
    (ap (λ (v : AskState). v.given) c.self.view_is) (ap (λ (v : AskState). v.wanted) c.self.view_is)
    (λ w. c.in_ok-count_both.ensures.ok w
    ∙ ap (λ (v : AskState). is_one c.not_asked-request.result w || is_one c.not_asked-number.result w
    || is_among v.asked w) c.self.view_is)
    is
