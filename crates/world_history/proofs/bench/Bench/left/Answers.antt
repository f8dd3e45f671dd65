use Rattle.world_history.proofs.BenchShows.{left_told}
use Rattle.world_history.proofs.bench.Bench.left.Goals as goal

pub returns : goal.returns
returns c = left_told c.self.inside.seat c.self.inside.is_spent c.args.self.now c.left.result c.self.view_is
    c.self.invariant c.left.ensures.left
