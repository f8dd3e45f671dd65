-- An acknowledgement whose key is there already changes nothing, since the first stays; a new one is kept under
-- its key. In both cases what is kept is right with one more word known.
use Rattle.std.proofs.Common.{ap, refl, subst}
use Rattle.protocol_rules.specs.Keys.{Vote, same_vote}
use Rattle.reconcile.specs.GiftState.{GiftState}
use Rattle.reconcile.proofs.Keeping.{TakesFirst, ack_taken, ack_known, ack_new}
use Rattle.reconcile.proofs.gifts.Gifts.take_ack.Goals as goal

pub returns-then-contains_key-clause-ok : goal.returns-then-contains_key-clause-ok
returns-then-contains_key-clause-ok c = λ g known is.
    let x = c.args.frame.now in
    let key : Vote = (x.body.j, x.body.k, x.body.digest, x.signer) in
    ack_taken g c.args.self.now c.args.self.now known x refl refl refl
    (subst (λ (v : GiftState). TakesFirst same_vote v.acks v.acks key x.sig) c.self.view_is
    (ack_known c.self.inside.acks.entries key x.sig c.if-contains_key.ensures)) is

pub returns-clause-ok : goal.returns-clause-ok
returns-clause-ok c = λ g known is.
    let x = c.args.frame.now in
    let key : Vote = (x.body.j, x.body.k, x.body.digest, x.signer) in
    ack_taken g c.args.self.now _ known x
    (ap (λ (v : GiftState). v.masters) c.self.view_is) (ap (λ (v : GiftState). v.quorum) c.self.view_is)
    (ap (λ (v : GiftState). v.requests) c.self.view_is)
    (subst (λ (v : GiftState). TakesFirst same_vote v.acks c.insert.new.self.entries key x.sig) c.self.view_is
    (ack_new c.self.inside.acks.entries c.insert.new.self.entries key x.sig c.in_ok-copy.field-0 c.in_ok-copy.ensures
    c.if-contains_key.ensures c.in_ok-insert.ensures.updates.0))
    is
