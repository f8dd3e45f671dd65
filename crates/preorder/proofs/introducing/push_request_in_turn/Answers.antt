-- Where the master is no door, or its numbers are used up, or the client's next update isn't taken, the rule gives no
-- request; else it gives that of the update found, and what was introduced goes up to it.
use Rattle.std.proofs.Common.{◌≡◌, ◌+◌, ◌≤◌, ◌++◌, ◌∷◌, [], refl, sym, ◌∙◌, ap, subst, arith, Some, None, set, max}
use Rattle.std.specs.Prelude.{slice_index}
use Rattle.std.proofs.lemmas.List.{append-nil}
use Rattle.message_types.specs.declared.body.Body.TheVariants as body
use Rattle.protocol_rules.specs.Group.{most_number}
use Rattle.protocol_rules.specs.Turns.{last_request}
use Rattle.preorder.specs.declared.introducing.Introduced.{Introduced}
use Rattle.preorder.specs.Counted.{IsIntroduced}
use Rattle.preorder.proofs.RequestsInTurn.{turned-full, turned-found, introduced-nothing, introduced-found}
use Rattle.preorder.proofs.introducing.push_request_in_turn.Goals as goal

pub returns-then-introduced-ge-MOST_NUMBER-clause-added : goal.returns-then-introduced-ge-MOST_NUMBER-clause-added
unfolding most_number
returns-then-introduced-ge-MOST_NUMBER-clause-added c = λ g me taken done said door has numbers count is.
    let full : most_number ≤ last_request said = omega (arith, is.request) in
    sym (ap (λ xs. c.args.bodies.now.items ++ xs) (turned-full g me taken done said c.args.client full) ∙ append-nil _)

pub returns-then-introduced-ge-MOST_NUMBER-clause-counted : goal.returns-then-introduced-ge-MOST_NUMBER-clause-counted
unfolding most_number
returns-then-introduced-ge-MOST_NUMBER-clause-counted c = λ g me taken done said door has numbers count is.
    let full : most_number ≤ last_request said = omega (arith, is.request) in
    introduced-nothing said c.args.introduced.now _ (turned-full g me taken done said c.args.client full) is

pub returns-in-None-clause-counted : goal.returns-in-None-clause-counted
unfolding most_number
returns-in-None-clause-counted c = λ g me taken done said door has numbers count is.
    introduced-nothing said c.args.introduced.now _
    (turned-found g me taken done said c.args.introduced.now c.args.client c.args.executed c.in-Some.number None
    (sym door ∙ c.if-not-is_door.false) is c.requires c.if-introduced-ge-MOST_NUMBER.false count
    (c.in-Some.ensures.1 ∙ ap (λ n. n + 1) c.max-last.ensures)
    (c.in-None.ensures.value ∙ has c.args.client c.in-Some.number)) is

pub returns-in_ok-push-in-Some-get-clause-added : goal.returns-in_ok-push-in-Some-get-clause-added
unfolding most_number
returns-in_ok-push-in-Some-get-clause-added c = λ g me taken done said door has numbers count is.
    let next = turned-found g me taken done said c.args.introduced.now c.args.client c.args.executed c.in-Some.number
    (Some c.in-Some-get.frame.now) (sym door ∙ c.if-not-is_door.false) is c.requires
    c.if-introduced-ge-MOST_NUMBER.false count (c.in-Some.ensures.1 ∙ ap (λ n. n + 1) c.max-last.ensures)
    (c.in-Some-get.ensures.value ∙ has c.args.client c.in-Some.number) in
    c.in_ok-push-in-Some-get.ensures.items
    ∙ ap (λ u. c.args.bodies.now.items ++ body.PoRequest record { k = c.args.introduced.now.request + 1; update = u }
    ∷ []) c.in_ok-update-in-Some-get.ensures
    ∙ ap (λ n. c.args.bodies.now.items ++ body.PoRequest record { k = n + 1; update = c.in-Some-get.frame.now } ∷ [])
    is.request
    ∙ sym (ap (λ xs. c.args.bodies.now.items ++ xs) next)

pub returns-in_ok-push-in-Some-get-clause-counted : goal.returns-in_ok-push-in-Some-get-clause-counted
unfolding most_number
returns-in_ok-push-in-Some-get-clause-counted c = λ g me taken done said door has numbers count is.
    let number_is : c.in-Some.number ≡ max (slice_index c.args.introduced.now.updates c.args.client) c.args.executed + 1 =
    c.in-Some.ensures.1 ∙ ap (λ n. n + 1) c.max-last.ensures in
    let first = c.in-Some-get.ensures.value ∙ has c.args.client c.in-Some.number in
    let next = turned-found g me taken done said c.args.introduced.now c.args.client c.args.executed c.in-Some.number
    (Some c.in-Some-get.frame.now) (sym door ∙ c.if-not-is_door.false) is c.requires
    c.if-introduced-ge-MOST_NUMBER.false count number_is first in
    let after : Introduced = record {
      request = c.args.introduced.now.request + 1;
      updates = set c.args.introduced.now.updates c.args.client c.in-Some.number;
    } in
    subst (λ xs. IsIntroduced (said ++ xs) after) (sym next)
    (introduced-found said c.args.introduced.now after c.args.client c.args.executed c.in-Some.number taken
    c.in-Some-get.frame.now is c.requires number_is first refl refl)
