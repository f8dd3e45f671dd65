-- No actor before the one looked at has the name, so the first that has it is the definition's, and after the
-- last of them there is none.
use Rattle.std.proofs.Common.{◌≡◌, ◌<◌, ◌∙◌, false, arith}
use Rattle.std.proofs.lemmas.Grind.{common_steps}
use Rattle.std.specs.Str.{bytes_eq}
use Rattle.scenario_file.specs.Actors.{actors_of, actor_name}
use Rattle.scenario_file.proofs.ActorLaws.{first_that-next}
use Rattle.scenario_file.proofs.actors.Cast.named.Goals as goal

pub loop-actor-preserved : goal.loop-actor-preserved
loop-actor-preserved c =
    let more = c.loop-actor-test.true in
    let all = c.actors-actor-end.ensures in
    let inside : c.loop-actor.actor < actors_of c.args.self = omega arith in
    let other : bytes_eq (actor_name c.args.self c.loop-actor.actor) c.args.name.now ≡ false =
    grind (arith, common_steps) in
    first_that-next (λ a. bytes_eq (actor_name c.args.self a) c.args.name.now) c.loop-actor.actor
    (actors_of c.args.self) inside other ∙ c.loop-actor.invariant
