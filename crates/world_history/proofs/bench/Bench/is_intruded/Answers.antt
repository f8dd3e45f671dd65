use Rattle.world_history.proofs.SpokenWords.{intruded_told}
use Rattle.world_history.proofs.bench.Bench.is_intruded.Goals as goal

pub returns-then-self-scenario : goal.returns-then-self-scenario
returns-then-self-scenario c = intruded_told c.self.inside.seat c.self.inside.is_spent c.args.self.now c.has.result
    c.self.view_is c.if-self-scenario.true c.has.ensures
