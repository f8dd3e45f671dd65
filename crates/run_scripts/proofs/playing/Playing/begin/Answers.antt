-- Before the first event each actor is new, nothing is posted or lost and no word is said: that is the making
-- that the definition begins with.
use Rattle.std.proofs.Common.{◌≡◌, ℕ, List, [], map, replicate, refl, sym, ◌∙◌, ap, subst}
use Rattle.quorum_sets.specs.Masters.{numbers_below}
use Rattle.scenario_file.specs.Reading.{contents}
use Rattle.world_history.specs.KeptState.{first_state}
use Rattle.run_scripts.specs.Playing.{IsMail}
use Rattle.run_scripts.proofs.PlayBegins.{begun}
use Rattle.world_history.proofs.Addressed.{cast_actors, begin_few}
use Rattle.run_scripts.proofs.playing.Playing.begin.Goals as goal

pub all_kept-requires-clause-actors : goal.all_kept-requires-clause-actors
all_kept-requires-clause-actors c =
    cast_actors c.args.scenario.now c.cast.result c.actors-actors.result c.cast.ensures c.actors-actors.ensures

pub make-requires : goal.make-requires
make-requires c =
    begin_few (contents c.args.scenario.now) c.actors-actors.result c.requires
    (cast_actors c.args.scenario.now c.cast.result c.actors-actors.result c.cast.ensures c.actors-actors.ensures)

pub returns : goal.returns
returns c = λ sayings.
    let count = cast_actors c.args.scenario.now c.cast.result c.actors-actors.result c.cast.ensures
    c.actors-actors.ensures in
    begun (contents c.args.scenario.now) sayings _ c.in_ok-all_kept.ensures refl
    (subst (λ (n : ℕ). IsMail n [] [] c.in_ok-make.field-0) count c.in_ok-make.ensures) c.new.ensures.items
    (c.in_ok-none_said.ensures ∙ ap (λ (n : ℕ). replicate n 0) count)
