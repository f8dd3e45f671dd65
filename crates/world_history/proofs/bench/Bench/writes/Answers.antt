-- A bench that isn't spent is in its actor's role, so a proxy tells the writes that follow from its own list,
-- and any other actor none.
use Rattle.std.proofs.Common.{refl}
use Rattle.world_history.specs.declared.role.Role.TheVariants as role
use Rattle.world_history.proofs.BenchShows.{role_of, writes_told, no_writes, other_than_proxy}
use Rattle.world_history.proofs.bench.Bench.writes.Goals as goal

pub returns-in-Proxy : goal.returns-in-Proxy
returns-in-Proxy c works =
    writes_told c.args.self.now c.in-Proxy.proxy c.writes.result.now
    (role_of c.self.inside.seat c.self.inside.is_spent c.args.self.now (role.Proxy c.in-Proxy.proxy)
    c.self.view_is c.self.invariant c.in-Proxy.is works)
    c.writes.ensures.writes

pub returns-in_default : goal.returns-in_default
returns-in_default c works =
    no_writes c.args.self.now c.self.inside.seat.role
    (role_of c.self.inside.seat c.self.inside.is_spent c.args.self.now c.self.inside.seat.role c.self.view_is
    c.self.invariant refl works)
    (other_than_proxy c.self.inside.seat.role c.in_default.not-Proxy)
