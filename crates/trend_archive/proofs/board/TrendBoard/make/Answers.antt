use Rattle.std.proofs.Common.{ap, ◌∙◌}
use Rattle.trend_archive.specs.Boards.{shown}
use Rattle.trend_archive.proofs.BoardLaws.{shown-none}
use Rattle.trend_archive.proofs.board.TrendBoard.make.Goals as goal

pub invariant_of-result : goal.invariant_of-result
invariant_of-result c = ap (shown c.args.sizes.n c.args.sizes.f) c.new.ensures.items
    ∙ shown-none c.args.sizes.n c.args.sizes.f
