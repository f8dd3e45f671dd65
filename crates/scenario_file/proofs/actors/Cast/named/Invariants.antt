use Rattle.std.proofs.Common.{◌≡◌, ◌-◌}
use Rattle.std.specs.Str.{bytes_eq}
use Rattle.point_table.specs.Point.{first_that}
use Rattle.scenario_file.specs.Actors.{actors_of, actor_name}
use Rattle.scenario_file.proofs.actors.Cast.named.Given as goal

abbrev pub invariant-loop-actor : goal.invariant-loop-actor
invariant-loop-actor l =
    first_that (λ a. bytes_eq (actor_name l.self a) l.name) l.actor (actors_of l.self - l.actor)
    ≡ first_that (λ a. bytes_eq (actor_name l.self a) l.name) 0 (actors_of l.self)
