-- Of a master of the table its entry is the vector; of any other the run is counted from its beginning.
use Rattle.std.proofs.Common.{arith}
use Rattle.protocol_rules.specs.Preorder.{certified}
use Rattle.preorder.specs.Index.{at_pair}
use Rattle.preorder.proofs.Ranges.{vector-reached}
use Rattle.preorder.proofs.Runs.{reaches-same}
use Rattle.preorder.proofs.again.reach_of.Goals as goal

pub returns-then-master-lt-MOST_MASTERS : goal.returns-then-master-lt-MOST_MASTERS
returns-then-master-lt-MOST_MASTERS c = λ g known has reached.
    vector-reached g known c.args.master _ (reached c.args.master c.if-master-lt-MOST_MASTERS.true)

pub returns-else-master-lt-MOST_MASTERS : goal.returns-else-master-lt-MOST_MASTERS
returns-else-master-lt-MOST_MASTERS c = λ g known has reached.
    vector-reached g known c.args.master c.run_end.result
    (reaches-same (λ k. at_pair c.args.certificates.now.entries (c.args.master, k)) (certified g known c.args.master)
    c.run_end.result (λ k. has c.args.master k)
    (c.run_end.ensures (record { limit = omega arith; without_gap = λ k low high. absurd (omega arith) })))
