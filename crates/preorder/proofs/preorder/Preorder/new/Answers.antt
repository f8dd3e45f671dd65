use Rattle.std.proofs.Common.{refl}
use Rattle.protocol_rules.specs.Group.{group_of}
use Rattle.preorder.proofs.Beginning.{starts}
use Rattle.preorder.proofs.preorder.Preorder.new.Goals as goal

pub returns : goal.returns
returns c = starts (group_of c.args.sizes c.args.clients) c.args.me _ refl refl c.new.ensures.empty
    c.new-2.ensures.empty c.new-3.ensures.empty c.new-4.ensures.empty refl
    c.none_pending.ensures.low c.none_pending.ensures.high refl refl
    c.no_lanes.ensures refl refl c.new-5.ensures.items
