use Rattle.std.proofs.Common.{[], ◌∙◌}
use Rattle.intruder_words.proofs.Shortening.{ok-weaker}
use Rattle.protocol_rules.specs.Group.{group_of}
use Rattle.protocol_rules.specs.Facts.{facts_of}
use Rattle.intruder_words.proofs.Alike.{order-same}
use Rattle.intruder_words.proofs.reports.order_by.Goals as goal

pub returns : goal.returns
returns c = ok-weaker c.given.result (λ gift known.
    let t = c.in_ok-tell_all.ensures in
    known (group_of c.args.sizes.now 0) t.told [] t.is ∙ order-same (group_of c.args.sizes.now 0) c.args.s t.told
    (facts_of (group_of c.args.sizes.now 0) c.args.known.now) t.alike) c.given.ensures
