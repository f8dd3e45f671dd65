-- A bench that isn't spent is in its actor's role, so a correct master tells the updates executed by its own
-- list, and any other actor none.
use Rattle.std.proofs.Common.{refl}
use Rattle.world_history.specs.declared.role.Role.TheVariants as role
use Rattle.world_history.proofs.BenchShows.{role_of, executions_told, no_executions, other_than_master}
use Rattle.world_history.proofs.bench.Bench.executions.Goals as goal

pub returns-in-Master : goal.returns-in-Master
returns-in-Master c works =
    executions_told c.args.self.now c.in-Master.node c.executions.result.now
    (role_of c.self.inside.seat c.self.inside.is_spent c.args.self.now (role.Master c.in-Master.node)
    c.self.view_is c.self.invariant c.in-Master.is works)
    c.executions.ensures

pub returns-in_default : goal.returns-in_default
returns-in_default c works =
    no_executions c.args.self.now c.self.inside.seat.role
    (role_of c.self.inside.seat c.self.inside.is_spent c.args.self.now c.self.inside.seat.role c.self.view_is
    c.self.invariant refl works)
    (other_than_master c.self.inside.seat.role c.in_default.not-Master)
