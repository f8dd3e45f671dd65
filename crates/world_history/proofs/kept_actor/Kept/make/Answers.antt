-- A bench without entries and a keeper before its first call are those of one actor: they belong together, and are its
-- first state.
use Rattle.scenario_file.specs.Reading.{contents}
use Rattle.world_history.proofs.KeptAtFirst.{begins_together, begun_state}
use Rattle.world_history.proofs.kept_actor.Kept.make.Goals as goal

pub invariant_of-result : goal.invariant_of-result
invariant_of-result c works =
    begins_together (contents c.args.scenario.now) c.args.actor c.in_ok-bench.bench c.in_ok-keeper.keeper
    c.requires.valid c.requires.there
    c.in_ok-bench.ensures c.in_ok-keeper.ensures

pub returns : goal.returns
returns c =
    begun_state (contents c.args.scenario.now) c.args.actor c.in_ok-bench.bench c.in_ok-keeper.keeper
    c.in_ok-bench.ensures c.in_ok-keeper.ensures
