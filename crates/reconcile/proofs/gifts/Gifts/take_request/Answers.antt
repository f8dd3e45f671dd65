-- A request whose number and digest are there already changes nothing, since the first stays; a new one is kept
-- under them. In both cases what is kept is right with one more word known.
use Rattle.std.proofs.Common.{ap, refl, subst}
use Rattle.preorder.specs.Index.{same_ballot}
use Rattle.reconcile.specs.GiftState.{GiftState, Ballot}
use Rattle.reconcile.proofs.Keeping.{TakesFirst, request_taken, request_known, request_new}
use Rattle.reconcile.proofs.gifts.Gifts.take_request.Goals as goal

pub returns-then-contains_key-clause-ok : goal.returns-then-contains_key-clause-ok
returns-then-contains_key-clause-ok c = λ g known is.
    let x = c.args.frame.now in
    let key : Ballot = (x.signer, x.body.k, c.update_digest-digest.result) in
    request_taken g c.args.self.now c.args.self.now known x c.update_digest-digest.result
    c.update_digest-digest.ensures refl refl refl
    (subst (λ (v : GiftState). TakesFirst same_ballot v.requests v.requests key x) c.self.view_is
    (request_known c.self.inside.requests.entries key x c.if-contains_key.ensures)) is

pub returns-clause-ok : goal.returns-clause-ok
returns-clause-ok c = λ g known is.
    let x = c.args.frame.now in
    let key : Ballot = (x.signer, x.body.k, c.update_digest-digest.result) in
    request_taken g c.args.self.now _ known x c.update_digest-digest.result c.update_digest-digest.ensures
    (ap (λ (v : GiftState). v.masters) c.self.view_is) (ap (λ (v : GiftState). v.quorum) c.self.view_is)
    (ap (λ (v : GiftState). v.acks) c.self.view_is)
    (subst (λ (v : GiftState). TakesFirst same_ballot v.requests c.insert.new.self.entries key x) c.self.view_is
    (request_new c.self.inside.requests.entries c.insert.new.self.entries key x c.in_ok-copy.field-0
    c.in_ok-copy.ensures c.if-contains_key.ensures c.in_ok-insert.ensures.updates.0))
    is
