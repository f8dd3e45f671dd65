-- A correct master's bench that isn't spent tells what its node executed, which follows from its own list. Any
-- other bench tells nothing.
use Rattle.std.proofs.Common.{refl, ◌∙◌}
use Rattle.world_history.specs.declared.role.Role.TheVariants as role
use Rattle.world_history.proofs.BenchShows.{role_of, spent_is, none_of_spent, executed_told, none_executed}
use Rattle.world_history.proofs.BenchShows.{other_than_master}
use Rattle.world_history.proofs.audited.BenchExecutes.executions.Goals as goal

pub returns-then-self : goal.returns-then-self
returns-then-self c = none_of_spent c.args.self.now
    (spent_is c.self.inside.seat c.self.inside.is_spent c.args.self.now c.self.view_is ∙ c.if-self.true)

pub returns-in-Master : goal.returns-in-Master
returns-in-Master c =
    let works = spent_is c.self.inside.seat c.self.inside.is_spent c.args.self.now c.self.view_is ∙ c.if-self.false in
    executed_told c.args.self.now c.in-Master.node c.executions.result.now works
    (role_of c.self.inside.seat c.self.inside.is_spent c.args.self.now (role.Master c.in-Master.node)
    c.self.view_is c.self.invariant c.in-Master.is works)
    c.executions.ensures

pub returns-in_default : goal.returns-in_default
returns-in_default c =
    let works = spent_is c.self.inside.seat c.self.inside.is_spent c.args.self.now c.self.view_is ∙ c.if-self.false in
    none_executed c.args.self.now c.self.inside.seat.role works
    (role_of c.self.inside.seat c.self.inside.is_spent c.args.self.now c.self.inside.seat.role c.self.view_is
    c.self.invariant refl works)
    (other_than_master c.self.inside.seat.role c.in_default.not-Master)
