use Rattle.std.proofs.Common.{◌-◌, ◌+◌, ap, arith}
use Rattle.interlocks.specs.Formula.{formula}
use Rattle.interlocks.proofs.NumberLaws.{negated_step}
use Rattle.interlocks.proofs.tree.not.Goals as goal

pub loop-preserved : goal.loop-preserved
loop-preserved c = (
  negated_step (c.args.nots - c.loop.counter) (c.args.nots - (c.loop.counter + 1)) _ _ _
      (let low = c.loop-test.true in omega arith) c.loop.invariant.0 (ap formula c.in_ok-new.ensures.ok),
  omega arith,
)
