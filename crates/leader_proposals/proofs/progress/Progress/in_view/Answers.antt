use Rattle.std.proofs.Common.{◌<◌, arith}
use Rattle.leader_proposals.proofs.Offering.{progress-later}
use Rattle.leader_proposals.proofs.progress.Progress.in_view.Goals as goal

pub returns-else-self-view-clause-kept : goal.returns-else-self-view-clause-kept
returns-else-self-view-clause-kept c = λ g facts said is.
    let later : c.args.self.now.view < c.start.result.view =
    omega (arith, c.start.ensures.view, c.if-self-view.false) in
    progress-later g c.args.self.now c.start.result facts said later c.start.ensures.greatest c.start.ensures.settled
    c.start.ensures.reach is
