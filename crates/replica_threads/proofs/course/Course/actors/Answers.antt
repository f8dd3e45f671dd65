-- The cast of a scenario counts its actors, and a scenario that is valid has at most 26.
use Rattle.std.proofs.Common.{arith}
use Rattle.scenario_file.specs.Reading.{contents}
use Rattle.world_history.proofs.Addressed.{cast_actors, begin_few}
use Rattle.replica_threads.proofs.course.Course.actors.Goals as goal

pub returns-clause-actors : goal.returns-clause-actors
returns-clause-actors c = cast_actors c.args.self.now.scenario.now c.cast.result c.actors.result
    c.cast.ensures c.actors.ensures

pub returns-clause-few : goal.returns-clause-few
returns-clause-few c =
    omega (
      arith,
      begin_few (contents c.args.self.now.scenario.now) c.actors.result c.requires
          (cast_actors c.args.self.now.scenario.now c.cast.result c.actors.result c.cast.ensures c.actors.ensures),
    )
