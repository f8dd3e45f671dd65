use Rattle.std.proofs.Common.{ap, ◌∙◌}
use Rattle.std.specs.Prelude.{map}
use Rattle.field_proxy.specs.Writes.{order_of}
use Rattle.field_proxy.specs.Front.{ProxyState}
use Rattle.field_proxy.proofs.FrontLaws.{front_written}
use Rattle.field_proxy.proofs.proxy.Proxy.writes.Goals as goal

pub returns-clause-orders : goal.returns-clause-orders
returns-clause-orders c = λ s is.
    ap (map order_of) (c.as_slice.ensures.value ∙ ap (λ (p : ProxyState). p.writes) c.self.view_is)
    ∙ front_written c.args.self.now s is
