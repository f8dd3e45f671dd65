-- The round trips of the number that the masters below waited for are released; one move more releases the next
-- master's and brings none back.
use Rattle.std.proofs.Common.{arith}
use Rattle.suspect_leader.proofs.Early.{not_moved, moved_again, gone_step}
use Rattle.suspect_leader.proofs.answers.release_number.Goals as goal

pub loop-to-init : goal.loop-to-init
loop-to-init c = (not_moved c.args.pending.now.keys c.args.early.now.keys, λ j lt. absurd (omega (arith, lt)))

pub loop-to-preserved : goal.loop-to-preserved
loop-to-preserved c = (
  moved_again c.args.pending.now.keys c.args.early.now.keys c.loop-to.pending.keys c.loop-to.early.keys
      c.release_one.new.pending.keys c.release_one.new.early.keys c.loop-to.invariant.0 c.release_one.ensures.moved,
  gone_step c.loop-to.pending.keys c.loop-to.early.keys c.release_one.new.pending.keys
      c.release_one.new.early.keys c.args.number c.loop-to.to c.release_one.ensures.moved c.loop-to.invariant.1
      c.in_ok-release_one.ensures.gone,
)
