use Rattle.world_history.proofs.KeptInStep.{keeps_seen}
use Rattle.world_history.proofs.kept_actor.Kept.bench.Goals as goal

pub returns-clause-keeps : goal.returns-clause-keeps
returns-clause-keeps c =
    keeps_seen c.self.inside.bench c.self.inside.keeper c.self.inside.is_halted c.self.inside.is_spent c.args.self.now
    c.self.view_is c.self.invariant
