use Rattle.std.proofs.Common.{subst}
use Rattle.checked_frames.specs.Standing.{StandsSomewhere}
use Rattle.checked_frames.proofs.StandingLaws.{stands_spelled}
use Rattle.checked_frames.proofs.checked.Checked.frame.Goals as goal

pub returns-clause-standing : goal.returns-clause-standing
returns-clause-standing c = subst StandsSomewhere c.self.view_is c.self.invariant

pub returns-clause-spelled : goal.returns-clause-spelled
returns-clause-spelled c =
    let standing : StandsSomewhere c.args.self.now = subst StandsSomewhere c.self.view_is c.self.invariant in
    stands_spelled standing.ring c.args.self.now standing.is_standing
