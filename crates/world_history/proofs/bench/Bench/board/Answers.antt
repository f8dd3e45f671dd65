-- A bench that isn't spent is in its actor's role, so a screen shows the notices that follow from its own list,
-- and any other actor none.
use Rattle.std.proofs.Common.{refl}
use Rattle.world_history.specs.declared.role.Role.TheVariants as role
use Rattle.world_history.proofs.BenchShows.{role_of, board_told, no_board, other_than_screen}
use Rattle.world_history.proofs.bench.Bench.board.Goals as goal

pub returns-in-Screen : goal.returns-in-Screen
returns-in-Screen c works =
    board_told c.args.self.now c.in-Screen.screen c.board.result.now
    (role_of c.self.inside.seat c.self.inside.is_spent c.args.self.now (role.Screen c.in-Screen.screen)
    c.self.view_is c.self.invariant c.in-Screen.is works)
    c.board.ensures

pub returns-in_default : goal.returns-in_default
returns-in_default c works =
    no_board c.args.self.now c.self.inside.seat.role
    (role_of c.self.inside.seat c.self.inside.is_spent c.args.self.now c.self.inside.seat.role c.self.view_is
    c.self.invariant refl works)
    (other_than_screen c.self.inside.seat.role c.in_default.not-Screen)
