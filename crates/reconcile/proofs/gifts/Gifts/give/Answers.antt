-- Where this update is certified as the request, the first request kept with its digest is the one that the
-- definition gives, together with the acknowledgements of the lowest masters for that digest.
use Rattle.std.proofs.Common.{◌∙◌, ap, Some}
use Rattle.std.specs.Option.{option_map}
use Rattle.reconcile.specs.GiftState.{GiftState, request_at}
use Rattle.reconcile.specs.Giving.{give_with}
use Rattle.reconcile.proofs.Keeping.{acks_kept, gift_is}
use Rattle.reconcile.proofs.gifts.Gifts.give.Goals as goal

pub returns-in_default : goal.returns-in_default
returns-in_default c = λ g known is found.
    let digest = c.update_digest-digest.result in
    ap (option_map (give_with (acks_kept c.args.self.now c.args.j c.args.k digest)))
    (c.in_default.ensures.value ∙ ap (λ (v : GiftState). request_at v (c.args.j, c.args.k, digest)) c.self.view_is)
    ∙ gift_is g c.args.self.now known c.args.j c.args.k c.args.update.now digest c.update_digest-digest.ensures is found

pub returns : goal.returns
returns c = λ g known is found.
    let digest = c.update_digest-digest.result in
    ap (λ acks. option_map (give_with acks) (Some c.in_ok-request.request))
    (c.in_ok-acks.ensures ∙ ap (λ (v : GiftState). acks_kept v c.args.j c.args.k digest) c.self.view_is)
    ∙ ap (option_map (give_with (acks_kept c.args.self.now c.args.j c.args.k digest)))
    (ap Some c.in_ok-request.ensures ∙ c.in-Some.ensures.value
    ∙ ap (λ (v : GiftState). request_at v (c.args.j, c.args.k, digest)) c.self.view_is)
    ∙ gift_is g c.args.self.now known c.args.j c.args.k c.args.update.now digest c.update_digest-digest.ensures is found
