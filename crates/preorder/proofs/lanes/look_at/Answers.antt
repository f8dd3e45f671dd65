-- The test of the lane's next request is what the rule asks of it, so its acknowledgement is due where the rule says so,
-- and the lane is one number longer.
use Rattle.std.proofs.Common.{◌+◌, ◌++◌, [], cond, ◌∙◌, ap, sym, rules}
use Rattle.protocol_rules.specs.Group.{group_of, most_number}
use Rattle.protocol_rules.specs.Preorder.{ack_due}
use Rattle.preorder.proofs.Turning.{turn-next, lane-next}
use Rattle.preorder.proofs.lanes.look_at.Goals as goal

pub overflow_add-lane : goal.overflow_add-lane
unfolding most_number
overflow_add-lane c = search rules

pub returns-clause-added : goal.returns-clause-added
returns-clause-added c = λ known said has is first.
    let g = group_of c.args.sizes.now c.args.clients in
    c.in_ok-push_ack_if.ensures g known said has
    ∙ ap (λ b. c.args.bodies.now.items
    ++ cond b (ack_due known said c.args.master (c.args.lane.now.seen + 1)) [])
    (c.has_turn-is_due.ensures ∙ sym (turn-next g known c.args.master c.args.lane.now c.args.update.now is first))

pub returns-clause-seen : goal.returns-clause-seen
returns-clause-seen c = λ known is first.
    lane-next (group_of c.args.sizes.now c.args.clients) known c.args.master c.args.lane.now c.pass.new.lane
    c.args.update.now c.requires.few c.requires.more first c.pass.ensures.next c.pass.ensures.greatest is
