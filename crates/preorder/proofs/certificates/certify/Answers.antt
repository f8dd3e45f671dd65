-- What is certified stays. Where nothing was and a candidate is there, it is certified now, and the run of its master's
-- numbers may go on.
use Rattle.std.proofs.Common.{subst}
use Rattle.preorder.specs.Index.{CertifiesAt}
use Rattle.preorder.proofs.Runs.{certify-known, certify-new}
use Rattle.preorder.proofs.certificates.certify.Goals as goal

pub returns-then-contains_key : goal.returns-then-contains_key
returns-then-contains_key c = λ g known after step has reached.
    certify-known g known after c.args.j c.args.k c.args.candidate c.args.certificates.now.entries c.args.reach.now
    step c.if-contains_key.ensures has reached

pub returns : goal.returns
returns c = λ g known after step has reached.
    let put = rw c.unwrap.ensures at c.insert.ensures.updates in
    certify-new g known after c.args.j c.args.k c.in-Some.update c.args.certificates.now.entries
    c.insert.new.self.entries c.args.reach.now c.extend.new.reach
    (subst (CertifiesAt g known after c.args.j c.args.k) c.in-Some.is step) c.if-contains_key.ensures c.requires.below
    put.0 c.extend.ensures.others c.extend.ensures.reaches has reached
