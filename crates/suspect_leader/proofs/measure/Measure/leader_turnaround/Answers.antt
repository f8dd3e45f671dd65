use Rattle.std.proofs.Common.{◌∙◌}
use Rattle.suspect_leader.proofs.Masters.{turnaround_is}
use Rattle.suspect_leader.proofs.measure.Measure.leader_turnaround.Goals as goal

pub returns : goal.returns
returns c = λ g me told known said is. c.turnaround_told.ensures
    ∙ turnaround_is g me c.args.self.now told known said c.args.v is
