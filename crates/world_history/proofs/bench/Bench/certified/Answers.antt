-- A bench that isn't spent is in its actor's role, so a correct master tells what is certified by its own list,
-- and any other actor nothing.
use Rattle.std.proofs.Common.{refl}
use Rattle.std.specs.Option.{option_copied}
use Rattle.world_history.specs.declared.role.Role.TheVariants as role
use Rattle.world_history.proofs.BenchShows.{role_of, certified_told, none_certified, other_than_master}
use Rattle.world_history.proofs.bench.Bench.certified.Goals as goal

pub returns-in-Master : goal.returns-in-Master
returns-in-Master c works =
    certified_told c.args.self.now c.in-Master.node c.args.j c.args.k (option_copied c.certified.result)
    (role_of c.self.inside.seat c.self.inside.is_spent c.args.self.now (role.Master c.in-Master.node)
    c.self.view_is c.self.invariant c.in-Master.is works)
    c.certified.ensures

pub returns-in_default : goal.returns-in_default
returns-in_default c works =
    none_certified c.args.self.now c.self.inside.seat.role c.args.j c.args.k
    (role_of c.self.inside.seat c.self.inside.is_spent c.args.self.now c.self.inside.seat.role c.self.view_is
    c.self.invariant refl works)
    (other_than_master c.self.inside.seat.role c.in_default.not-Master)
