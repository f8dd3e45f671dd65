use Rattle.std.proofs.Common.{ap, ◌∙◌}
use Rattle.reconcile.specs.AskState.{AskState}
use Rattle.reconcile.proofs.Order.{request_place, number_place}
use Rattle.reconcile.proofs.asks.Asks.has_place.Goals as goal

pub returns-then-k-ge1 : goal.returns-then-k-ge1
returns-then-k-ge1 c = λ g e. request_place g c.args.wanted.now c.in-Request.j c.in-Request.k c.self.inside.sizes.n
    c.in-Request.is (ap (λ (v : AskState). v.masters) c.self.view_is ∙ e) c.if-k-ge1.true.0 c.if-k-ge1.true.1

pub returns-then-s-ge1 : goal.returns-then-s-ge1
returns-then-s-ge1 c = λ g e. number_place g c.args.wanted.now c.in-Number.s c.in-Number.is c.if-s-ge1.true
