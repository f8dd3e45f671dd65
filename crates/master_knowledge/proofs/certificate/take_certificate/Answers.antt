-- Only the one request can have become certified. Where it is, the execution takes its update; where it isn't,
-- what was certified before is what is certified now.
use Rattle.std.proofs.Common.{Option, sym, subst}
use Rattle.std.proofs.lemmas.Result.{on_ok_weaker}
use Rattle.message_types.specs.declared.updates.Update.{Update}
use Rattle.master_knowledge.specs.Certifying.{IsCertifiedAt}
use Rattle.master_knowledge.proofs.Certified.{run_certified, run_same, none_certified}
use Rattle.master_knowledge.proofs.certificate.take_certificate.Goals as goal

pub returns-in-Some-clause-ok : goal.returns-in-Some-clause-ok
returns-in-Some-clause-ok c = on_ok_weaker c.take_certified.result (λ ran g before now runs at run.
    run_certified g c.take_certified.new.self c.args.j c.args.k c.in-Some.update.now before now runs
    (subst (λ (o : Option Update). IsCertifiedAt c.args.j c.args.k o before now) (sym c.in-Some.ensures) at)
    (ran g before runs run)) c.take_certified.ensures.ok

pub returns-in-None-clause-ok : goal.returns-in-None-clause-ok
returns-in-None-clause-ok c g before now runs at run =
    run_same g c.args.run.now before now runs
    (none_certified c.args.j c.args.k before now
    (subst (λ (o : Option Update). IsCertifiedAt c.args.j c.args.k o before now) (sym c.in-None.ensures) at)) run
