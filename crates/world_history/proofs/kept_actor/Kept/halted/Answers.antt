use Rattle.world_history.proofs.KeptInStep.{halt_seen}
use Rattle.world_history.proofs.kept_actor.Kept.halted.Goals as goal

pub returns : goal.returns
returns c =
    halt_seen c.self.inside.bench c.self.inside.keeper c.self.inside.is_halted c.self.inside.is_spent c.args.self.now
    c.self.view_is c.self.invariant
