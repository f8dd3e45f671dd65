-- For no master so far does it reach further, so the first one for whom it does decides, and after the last one
-- it doesn't exceed.
use Rattle.std.proofs.Common.{nat_lt, get_or, sym, arith}
use Rattle.std.proofs.lemmas.Bool.{lt-ltb, le-ltb}
use Rattle.summary_matrix.proofs.Loops.{any_here}
use Rattle.quorum_sets.proofs.Numbered.{any_start, any_more}
use Rattle.summary_matrix.proofs.reach.Reach.exceeds.Goals as goal

pub loop-master-init : goal.loop-master-init
loop-master-init c = any_start
    (λ j. nat_lt (get_or c.args.offered.now.numbers j 0) (get_or c.args.self.now.numbers j 0))

pub returns-then-offered-place : goal.returns-then-offered-place
returns-then-offered-place c =
    sym (any_here (λ j. nat_lt (get_or c.args.offered.now.numbers j 0) (get_or c.args.self.now.numbers j 0))
    c.loop-master.master c.args.masters (omega arith) (lt-ltb _ _ c.if-offered-place.true))

pub loop-master-preserved : goal.loop-master-preserved
loop-master-preserved c =
    any_more (λ j. nat_lt (get_or c.args.offered.now.numbers j 0) (get_or c.args.self.now.numbers j 0))
    c.loop-master.master c.loop-master.invariant (le-ltb _ _ c.if-offered-place.false)
