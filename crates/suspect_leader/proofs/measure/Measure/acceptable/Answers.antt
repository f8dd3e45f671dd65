use Rattle.std.proofs.Common.{◌∙◌}
use Rattle.suspect_leader.proofs.Masters.{acceptable_is}
use Rattle.suspect_leader.proofs.measure.Measure.acceptable.Goals as goal

pub returns : goal.returns
returns c = λ g me told known said is. c.acceptable_told.ensures
    ∙ acceptable_is g me c.args.self.now told known said c.args.v is
