use Rattle.std.proofs.Common.{refl}
use Rattle.protocol_rules.specs.Group.{group_of}
use Rattle.view_change.proofs.Said.{views-none}
use Rattle.view_change.proofs.views.Views.new.Goals as goal

pub returns-clause-nothing : goal.returns-clause-nothing
returns-clause-nothing c clients =
    views-none (group_of c.args.sizes clients) c.args.me _ refl refl refl refl c.new-2.ensures.empty
    c.new-3.ensures.empty c.new-4.ensures.empty refl refl
