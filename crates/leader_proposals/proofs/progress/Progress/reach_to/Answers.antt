-- The reach so far is that of the numbers gone over; a number with known rows raises it by what they make
-- eligible, one without leaves it.
use Rattle.std.proofs.Common.{◌≡◌, ℕ, subst, arith}
use Rattle.summary_matrix.specs.Held.{TellsEach}
use Rattle.leader_proposals.specs.Counting.{reach_to}
use Rattle.leader_proposals.proofs.Reaching.{raised}
use Rattle.leader_proposals.proofs.progress.Progress.reach_to.Goals as goal

pub loop-before-init : goal.loop-before-init
loop-before-init c = λ g facts ordered is sizes known settled. settled.reach

pub loop-before-preserved : goal.loop-before-preserved
loop-before-preserved c = λ g facts ordered is sizes known settled.
    raised g facts c.args.self.now.view c.loop-before.before c.args.plan.now c.args.sizes.now
    c.loop-before.reach.numbers c.raise_by.new.reach.numbers _
    sizes.quorum known (c.counted-rows.ensures.rows g facts ordered is) (c.raise_by.ensures 0)
    (c.loop-before.invariant g facts ordered is sizes known settled)

pub returns : goal.returns
returns c = λ g facts ordered is sizes known le settled.
    let last : c.loop-before.before ≡ c.args.last = omega arith in
    subst (λ (n : ℕ). TellsEach c.loop-before.reach.numbers (reach_to g facts c.args.self.now.view n)) last
    (c.loop-before.invariant g facts ordered is sizes known settled)
