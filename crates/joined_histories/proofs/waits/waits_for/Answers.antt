-- A correct actor's word waits where it is still to come.
use Rattle.std.proofs.Common.{◌≡◌, Bool, true, false, ◌&&◌, ◌∙◌, ap, sym}
use Rattle.std.specs.Prelude.{slice_get}
use Rattle.joined_histories.specs.Order.{later_in}
use Rattle.joined_histories.proofs.waits.waits_for.Goals as goal

pub returns-then-is_correct : goal.returns-then-is_correct
returns-then-is_correct c = λ w masters.
    c.is_later.ensures ∙ ap (λ (b : Bool). b && later_in c.args.part.now.body
    (slice_get c.args.kept.now.lists.items c.args.part.now.signer) (slice_get c.args.next.now c.args.part.now.signer))
    (c.if-is_correct.ensures w masters)

pub returns : goal.returns
returns c = λ w masters.
    ap (λ (b : Bool). b && later_in c.args.part.now.body
    (slice_get c.args.kept.now.lists.items c.args.part.now.signer) (slice_get c.args.next.now c.args.part.now.signer))
    (c.if-is_correct.ensures w masters)
