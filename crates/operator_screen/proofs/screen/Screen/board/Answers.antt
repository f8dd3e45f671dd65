use Rattle.std.proofs.Common.{ap, ◌∙◌}
use Rattle.operator_screen.specs.Board.{ScreenState}
use Rattle.operator_screen.proofs.DeskLaws.{desk_shown}
use Rattle.operator_screen.proofs.screen.Screen.board.Goals as goal

pub returns : goal.returns
returns c = λ s is. c.as_slice.ensures.value ∙ ap (λ (p : ScreenState). p.board) c.self.view_is
    ∙ desk_shown c.args.self.now s is
