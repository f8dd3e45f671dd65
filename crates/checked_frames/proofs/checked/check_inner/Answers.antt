-- No part before the one looked at has a fault: so the first refusal is the first fault of all, and where none
-- comes there is none.
use Rattle.std.proofs.Common.{arith, refl}
use Rattle.std.proofs.lemmas.Result.{err_from_is_err_and}
use Rattle.checked_frames.specs.Standing.{part_fault, fault_from}
use Rattle.checked_frames.proofs.StandingLaws.{IsFault-within, one_more_faultless, fault_is_first}
use Rattle.checked_frames.proofs.checked.check_inner.Goals as goal

pub returns-in_err-check_part-clause-fault : goal.returns-in_err-check_part-clause-fault
returns-in_err-check_part-clause-fault c =
    let p = err_from_is_err_and c.from_residual.result c.from_residual.ensures.1 in
    rw (p.1, p.2)
    (IsFault-within c.in_err-check_part.field-0.0 (part_fault c.args.ring.now c.loop-frame.part c.frame-item.result)
    (fault_from c.args.ring.now 1 c.args.frames.now)
    (fault_is_first c.args.ring.now c.args.frames.now c.loop-frame.frame-index c.loop-frame.part c.frame-item.result
    c.loop-frame.invariant.number c.loop-frame-test.true c.frame-item.is c.loop-frame.invariant.faultless)
    c.in_err-check_part.ensures.fault)

pub loop-frame-preserved : goal.loop-frame-preserved
loop-frame-preserved c = record {
  number = omega arith;
  faultless = one_more_faultless c.args.ring.now c.args.frames.now c.loop-frame.frame-index
      c.loop-frame.part c.frame-item.result
      c.loop-frame.invariant.number c.loop-frame-test.true c.frame-item.is c.loop-frame.invariant.faultless
      (c.in_ok-check_part.ensures.none refl);
}
