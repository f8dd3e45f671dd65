use Rattle.global_order.specs.OrderState.{IsOrderOf}
use Rattle.global_order.specs.Held.{state_of}
use Rattle.global_order.proofs.Alike.{inside}
use Rattle.global_order.proofs.Certifying.{if_ok}
use Rattle.global_order.proofs.order.Order.certificate.Goals as goal

pub returns : goal.returns
returns c = if_ok c.first_certificate_of.result _ _ (λ certificate told g facts said is.
    let held : IsOrderOf g (state_of c.self.inside) facts said =
    inside c.self.inside c.args.self.now c.self.view_is g facts said is in
    told g facts held.sizes held.prepares held.choices) c.first_certificate_of.ensures
