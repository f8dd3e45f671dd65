use Rattle.client_roles.proofs.Polling.{change_made}
use Rattle.client_roles.proofs.proxy_role.change_field.Goals as goal

pub returns : goal.returns
returns c = λ s is.
    change_made c.args.proxy.now c.change-changed.new.self c.change-changed.result s c.args.area c.args.place c.args.value
    c.change-changed.ensures.ok c.change-changed.ensures.err c.change-changed.ensures.no_place is
