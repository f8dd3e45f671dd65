-- Nothing is held, and that is what each definition gives over no facts and no words.
use Rattle.std.proofs.Common.{◌≤◌, refl, arith}
use Rattle.protocol_rules.specs.Group.{group_of}
use Rattle.global_order.proofs.Beginning.{order-new, sound-new}
use Rattle.global_order.proofs.order.Order.new.Goals as goal

pub invariant_of-result : goal.invariant_of-result
invariant_of-result c = sound-new _ c.new-6.ensures.empty c.new-8.ensures.empty c.new-7.ensures.empty refl
    (λ i. record { base = 0; rows = c.new-10.ensures i }) c.new-11.ensures.empty c.new-12.ensures.empty refl refl refl

pub returns : goal.returns
returns c clients =
    let some : 1 ≤ c.args.sizes.q = omega arith in
    order-new (group_of c.args.sizes clients) _ record { masters = refl; quorum = refl } some c.new.ensures.empty
    c.new-2.ensures.empty c.new-3.ensures.empty c.new-4.ensures.empty c.new-5.ensures.empty c.new-6.ensures.empty
    c.new-7.ensures.empty c.new-8.ensures.empty c.new-9.ensures.empty
    (λ i. record { base = 0; rows = c.new-10.ensures i }) c.new-11.ensures.empty c.new-12.ensures.empty
    c.new-13.ensures.empty c.new-14.ensures.empty refl refl c.all_pending-2.ensures c.all_pending.ensures
