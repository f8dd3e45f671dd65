-- A bench that isn't spent is in its actor's role, so a correct master tells the view that follows from its own
-- list, and any other actor 0.
use Rattle.std.proofs.Common.{refl}
use Rattle.world_history.specs.declared.role.Role.TheVariants as role
use Rattle.world_history.proofs.BenchShows.{role_of, view_told, no_view, other_than_master}
use Rattle.world_history.proofs.bench.Bench.view.Goals as goal

pub returns-in-Master : goal.returns-in-Master
returns-in-Master c works =
    view_told c.args.self.now c.in-Master.node c.view.result
    (role_of c.self.inside.seat c.self.inside.is_spent c.args.self.now (role.Master c.in-Master.node)
    c.self.view_is c.self.invariant c.in-Master.is works)
    c.view.ensures

pub returns-in_default : goal.returns-in_default
returns-in_default c works =
    no_view c.args.self.now c.self.inside.seat.role
    (role_of c.self.inside.seat c.self.inside.is_spent c.args.self.now c.self.inside.seat.role c.self.view_is
    c.self.invariant refl works)
    (other_than_master c.self.inside.seat.role c.in_default.not-Master)
