use Rattle.std.proofs.Common.{inl, arith}
use Rattle.preorder.specs.Index.{at_pair}
use Rattle.preorder.proofs.Runs.{reaches-more, reaches-stop}
use Rattle.preorder.proofs.certificates.run_end.Goals as goal

pub loop-end-preserved : goal.loop-end-preserved
loop-end-preserved c = λ start. reaches-more (λ k. at_pair c.args.certificates.now.entries (c.args.j, k))
    c.loop-end.end (c.loop-end.invariant start) (omega arith) c.if-contains_key.ensures

pub returns-after-loop-end : goal.returns-after-loop-end
returns-after-loop-end c = λ start. reaches-stop (λ k. at_pair c.args.certificates.now.entries (c.args.j, k))
    c.loop-end.end (c.loop-end.invariant start) (inl (omega arith))
