use Rattle.world_history.proofs.AuditAsks.{agree_by_benches, agree_by_headline}
use Rattle.world_history.proofs.agreeing.agree_benches.Goals as goal

pub returns-clause-relation : goal.returns-clause-relation
returns-clause-relation c = λ world history are. agree_by_benches c.args.benches.now c.all_prefixes.result world
    history c.all_prefixes.ensures are

pub returns-clause-allowed : goal.returns-clause-allowed
returns-clause-allowed c = λ world history are scenario legal premises.
    agree_by_headline c.args.benches.now c.all_prefixes.result world history c.all_prefixes.ensures
    are scenario legal premises
