-- Where the master is no door, or its numbers are used up, or the client's next update isn't taken, the rule gives no
-- request; else it gives that of the update found, and the counts go up by it.
use Rattle.std.proofs.Common.{◌+◌, ◌≤◌, ◌++◌, ◌∷◌, [], length, refl, sym, ◌∙◌, ap, subst, arith, Some, None, set}
use Rattle.std.proofs.lemmas.List.{append-nil}
use Rattle.message_types.specs.declared.body.Body.TheVariants as body
use Rattle.protocol_rules.specs.Group.{most_number}
use Rattle.protocol_rules.specs.Preorder.{requests_said}
use Rattle.preorder.specs.declared.requests.Counts.{Counts}
use Rattle.preorder.specs.Counted.{IsCounted}
use Rattle.preorder.proofs.Introductions.{next-off, shut-other, shut-full, counted-nothing, step-found, step-counted}
use Rattle.preorder.proofs.requests.push_request.Goals as goal

pub returns-then-not-is_door-clause-added : goal.returns-then-not-is_door-clause-added
returns-then-not-is_door-clause-added c = λ g me taken said door has counted.
    sym (ap (λ xs. c.args.bodies.now.items ++ xs)
    (next-off g me taken said c.args.client
    (shut-other g me said c.args.client (sym door ∙ c.if-not-is_door.true))) ∙ append-nil _)

pub returns-then-not-is_door-clause-counted : goal.returns-then-not-is_door-clause-counted
returns-then-not-is_door-clause-counted c = λ g me taken said door has counted.
    counted-nothing said c.args.counts.now _
    (next-off g me taken said c.args.client
    (shut-other g me said c.args.client (sym door ∙ c.if-not-is_door.true))) counted

pub returns-then-counts-ge-MOST_NUMBER-clause-added : goal.returns-then-counts-ge-MOST_NUMBER-clause-added
unfolding most_number
returns-then-counts-ge-MOST_NUMBER-clause-added c = λ g me taken said door has counted.
    let full : most_number ≤ length (requests_said said) = omega (arith, counted.all) in
    sym (ap (λ xs. c.args.bodies.now.items ++ xs)
    (next-off g me taken said c.args.client (shut-full g me said c.args.client full)) ∙ append-nil _)

pub returns-then-counts-ge-MOST_NUMBER-clause-counted : goal.returns-then-counts-ge-MOST_NUMBER-clause-counted
unfolding most_number
returns-then-counts-ge-MOST_NUMBER-clause-counted c = λ g me taken said door has counted.
    let full : most_number ≤ length (requests_said said) = omega (arith, counted.all) in
    counted-nothing said c.args.counts.now _
    (next-off g me taken said c.args.client (shut-full g me said c.args.client full)) counted

pub returns-in-None-clause-added : goal.returns-in-None-clause-added
returns-in-None-clause-added c = λ g me taken said door has counted.
    let next = step-found g me taken said c.args.counts.now c.args.client c.saturating_add-number.result None
    (sym door ∙ c.if-not-is_door.false) counted c.requires
    c.if-counts-ge-MOST_NUMBER.false c.saturating_add-number.ensures
    (c.in-None.ensures.value ∙ has c.args.client c.saturating_add-number.result) in
    sym (ap (λ xs. c.args.bodies.now.items ++ xs) next ∙ append-nil _)

pub returns-in-None-clause-counted : goal.returns-in-None-clause-counted
returns-in-None-clause-counted c = λ g me taken said door has counted.
    counted-nothing said c.args.counts.now _
    (step-found g me taken said c.args.counts.now c.args.client c.saturating_add-number.result None
    (sym door ∙ c.if-not-is_door.false) counted c.requires
    c.if-counts-ge-MOST_NUMBER.false c.saturating_add-number.ensures
    (c.in-None.ensures.value ∙ has c.args.client c.saturating_add-number.result)) counted

pub returns-in_ok-push-in-Some-clause-added : goal.returns-in_ok-push-in-Some-clause-added
returns-in_ok-push-in-Some-clause-added c = λ g me taken said door has counted.
    let next = step-found g me taken said c.args.counts.now c.args.client c.saturating_add-number.result
    (Some c.in-Some.frame.now) (sym door ∙ c.if-not-is_door.false) counted c.requires
    c.if-counts-ge-MOST_NUMBER.false c.saturating_add-number.ensures
    (c.in-Some.ensures.value ∙ has c.args.client c.saturating_add-number.result) in
    c.in_ok-push-in-Some.ensures.items
    ∙ ap (λ u. c.args.bodies.now.items ++ body.PoRequest record { k = c.args.counts.now.introduced + 1; update = u }
    ∷ []) c.in_ok-update-in-Some.ensures
    ∙ ap (λ n. c.args.bodies.now.items ++ body.PoRequest record { k = n + 1; update = c.in-Some.frame.now } ∷ [])
    counted.all
    ∙ sym (ap (λ xs. c.args.bodies.now.items ++ xs) next)

pub returns-in_ok-push-in-Some-clause-counted : goal.returns-in_ok-push-in-Some-clause-counted
returns-in_ok-push-in-Some-clause-counted c = λ g me taken said door has counted.
    let next = step-found g me taken said c.args.counts.now c.args.client c.saturating_add-number.result
    (Some c.in-Some.frame.now) (sym door ∙ c.if-not-is_door.false) counted c.requires
    c.if-counts-ge-MOST_NUMBER.false c.saturating_add-number.ensures
    (c.in-Some.ensures.value ∙ has c.args.client c.saturating_add-number.result) in
    let after : Counts = record {
      introduced = c.args.counts.now.introduced + 1;
      said_for =
          set c.args.counts.now.said_for c.args.client c.saturating_add-number.result;
    } in
    subst (λ xs. IsCounted (said ++ xs) after) (sym next)
    (step-counted said c.args.counts.now after c.args.client c.saturating_add-number.result taken c.in-Some.frame.now
    (length (requests_said said) + 1) counted c.requires
    c.if-counts-ge-MOST_NUMBER.false c.saturating_add-number.ensures
    (c.in-Some.ensures.value ∙ has c.args.client c.saturating_add-number.result) refl refl)
