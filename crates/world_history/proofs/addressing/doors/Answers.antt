-- Each master in turn is added where it is a door of the client, so after all of them the list is that of the
-- group's doors, rising.
use Rattle.std.proofs.Common.{sym, ◌∙◌}
use Rattle.protocol_rules.specs.Group.{group_of, is_door}
use Rattle.quorum_sets.proofs.MastersLemmas.{voters-zero}
use Rattle.world_history.proofs.Lists.{voters_next}
use Rattle.world_history.proofs.addressing.doors.Goals as goal

pub loop-master-init : goal.loop-master-init
loop-master-init c = λ clients. c.new-to.ensures
    ∙ sym (voters-zero (is_door (group_of c.args.sizes.now clients) c.args.client))

pub loop-master-preserved : goal.loop-master-preserved
loop-master-preserved c = λ clients.
    voters_next (is_door (group_of c.args.sizes.now clients) c.args.client) c.loop-master.master c.is_door.result
    c.loop-master.to c.push_if.new.to
    (c.is_door.ensures clients) c.in_ok-push_if.ensures (c.loop-master.invariant clients)
