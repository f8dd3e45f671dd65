-- A master is a door exactly where one of the steps from the client leads to it; the loop looks at the steps in turn.
use Rattle.std.proofs.Common.{◌+◌, ◌%◌, nat_eq, sym}
use Rattle.std.proofs.lemmas.Bool.{ne_eqb, eq-eqb}
use Rattle.quorum_sets.proofs.Numbered.{any_below, any_start, any_more}
use Rattle.preorder.proofs.requests.is_door.Goals as goal

pub loop-step-init : goal.loop-step-init
loop-step-init c = any_start (λ x. nat_eq ((c.args.client + x) % c.args.sizes.now.n) c.args.master)

pub loop-step-preserved : goal.loop-step-preserved
loop-step-preserved c =
    any_more (λ x. nat_eq ((c.args.client + x) % c.args.sizes.now.n) c.args.master)
    c.loop-step.step c.loop-step.invariant
    (ne_eqb _ _ c.if-client-step.false)

pub returns-then-client-step : goal.returns-then-client-step
returns-then-client-step c = λ clients.
    sym (any_below (λ x. nat_eq ((c.args.client + x) % c.args.sizes.now.n) c.args.master)
    (c.args.sizes.now.f + c.args.sizes.now.k + 1) c.loop-step.step
    c.loop-step-test.true (eq-eqb _ _ c.if-client-step.true))
