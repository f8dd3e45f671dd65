-- The benches replayed from the history are those of its actors: so what the benches' executions tell of
-- agreement is told of the history.
use Rattle.std.proofs.Common.{◌∙◌}
use Rattle.scenario_file.specs.Reading.{contents}
use Rattle.world_history.proofs.AuditAsks.{all_unsigned}
use Rattle.world_history.proofs.agreeing.agree.Goals as goal

pub returns-clause-relation : goal.returns-clause-relation
returns-clause-relation c =
    c.agree_benches.ensures.relation (contents c.args.scenario.now) c.args.history.now
    (all_unsigned (contents c.args.scenario.now) c.args.history.now c.as_slice.result.now
    (c.as_slice.ensures.value ∙ c.in_ok-benches.ensures))

pub returns-clause-allowed : goal.returns-clause-allowed
returns-clause-allowed c =
    c.agree_benches.ensures.allowed (contents c.args.scenario.now) c.args.history.now
    (all_unsigned (contents c.args.scenario.now) c.args.history.now c.as_slice.result.now
    (c.as_slice.ensures.value ∙ c.in_ok-benches.ensures))
    c.requires.valid c.requires.legal
