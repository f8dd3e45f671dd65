-- The own request after those certified is that of the update held for it.
use Rattle.std.proofs.Common.{◌≡◌, ◌+◌, ◌++◌, ◌∷◌, [], Some, None, ◌∙◌, ap, sym, arith}
use Rattle.std.proofs.lemmas.List.{append-nil}
use Rattle.message_types.specs.declared.body.Body.TheVariants as body
use Rattle.protocol_rules.specs.Group.{most_number}
use Rattle.preorder.specs.Again.{request_with, request_held}
use Rattle.preorder.proofs.Repeats.{request-again, get-none, get-some}
use Rattle.preorder.proofs.again.push_request_again.Goals as goal

pub returns-in_default : goal.returns-in_default
returns-in_default c = λ said own limit.
    sym (request-again said c.args.updates.now.entries c.args.own.now c.args.certified c.args.is_beat None
    c.args.bodies.now.items own c.if-not-is_beat.false
    (ap (request_held c.args.updates.now.entries (c.args.certified + 1)) (sym (get-none c.args.own.now c.args.certified c.in_default.ensures.lookup.3))) ∙ append-nil _)

pub returns-in_default-get : goal.returns-in_default-get
returns-in_default-get c = λ said own limit.
    sym (request-again said c.args.updates.now.entries c.args.own.now c.args.certified c.args.is_beat None
    c.args.bodies.now.items own c.if-not-is_beat.false
    (ap (request_with (c.args.certified + 1)) c.in_default-get.ensures.value
    ∙ ap (request_held c.args.updates.now.entries (c.args.certified + 1)) (get-some c.args.own.now c.args.certified c.in-Some.key.now c.in-Some.ensures.lookup.3.0
    c.in-Some.ensures.lookup.1)) ∙ append-nil _)

pub returns : goal.returns
unfolding most_number
returns c = λ said own limit.
    let next : c.saturating_add-k.result ≡ c.args.certified + 1 = omega (arith, c.saturating_add-k.ensures) in
    c.in_ok-push.ensures.items
    ∙ ap (λ u. c.args.bodies.now.items ++ body.PoRequest record { k = c.saturating_add-k.result; update = u } ∷ [])
    c.in_ok-update.ensures
    ∙ ap (λ n. c.args.bodies.now.items ++ body.PoRequest record { k = n; update = c.in-Some-get.frame.now } ∷ []) next
    ∙ sym (request-again said c.args.updates.now.entries c.args.own.now c.args.certified c.args.is_beat
    (Some (body.PoRequest record { k = c.args.certified + 1; update = c.in-Some-get.frame.now }))
    c.args.bodies.now.items own c.if-not-is_beat.false
    (ap (request_with (c.args.certified + 1)) c.in-Some-get.ensures.value
    ∙ ap (request_held c.args.updates.now.entries (c.args.certified + 1)) (get-some c.args.own.now c.args.certified c.in-Some.key.now c.in-Some.ensures.lookup.3.0
    c.in-Some.ensures.lookup.1)))
