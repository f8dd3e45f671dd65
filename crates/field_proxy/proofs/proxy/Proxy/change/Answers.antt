use Rattle.field_proxy.specs.contracts.proxy.Proxy.{the_view}
use Rattle.field_proxy.proofs.FrontLaws.{front_moved, front_seen, when_ok}
use Rattle.field_proxy.proofs.proxy.Proxy.change.Goals as goal

pub returns-clause-ok : goal.returns-clause-ok
returns-clause-ok c = when_ok c.change.result c.change.ensures.ok (λ moved s is.
    front_moved (the_view c.self.inside) s c.args.area c.args.place c.args.value c.change.new.self
    (front_seen (the_view c.self.inside) c.args.self.now s c.self.view_is is) moved)
