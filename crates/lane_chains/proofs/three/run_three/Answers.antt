-- Each chain that is marked, or is below the present one, has its end in place: the groups in lanes keep this,
-- and each chain that they left out is run alone.
use Rattle.std.proofs.Common.{arith, inl}
use Rattle.lane_chains.specs.Three.{end_of_three}
use Rattle.lane_chains.proofs.ChainsInAnyOrder.{none_ended, ended_none_to, ended_next}
use Rattle.lane_chains.proofs.three.run_three.Goals as goal

pub chains-init : goal.chains-init
chains-init c =
    let f = end_of_three c.args.a.now c.args.b.now c.args.c.now c.args.from.now c.args.to.now c.args.starts.now in
    ended_none_to f c.run_together.new.done c.run_together.new.ends
    (c.run_together.ensures (none_ended f 265 c.args.ends.now))

pub chains-preserved : goal.chains-preserved
chains-preserved c =
    let f = end_of_three c.args.a.now c.args.b.now c.args.c.now c.args.from.now c.args.to.now c.args.starts.now in
    ended_next f c.chains.n c.run_together.new.done c.chains.ends c.end_one.new.ends c.chains.invariant
    c.end_one.ensures.marked c.end_one.ensures.ended c.end_one.ensures.others

pub returns : goal.returns
returns c = λ k lt. c.chains.invariant k (inl (omega arith))
