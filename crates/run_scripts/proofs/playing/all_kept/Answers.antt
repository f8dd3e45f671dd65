-- Each turn makes the next actor's first state, so the list is that of all actors in the order of their
-- numbers.
use Rattle.std.proofs.Common.{◌≡◌, ℕ, List, ◌++◌, ◌∷◌, [], map, sym, ap, ◌∙◌}
use Rattle.quorum_sets.specs.Masters.{numbers_below}
use Rattle.scenario_file.specs.Reading.{contents}
use Rattle.world_history.specs.KeptState.{KeptState, first_state}
use Rattle.run_scripts.proofs.Lists.{map_numbers_next}
use Rattle.quorum_sets.proofs.Numbered.{below_none_at}
use Rattle.run_scripts.proofs.playing.all_kept.Goals as goal

pub loop-actor-init : goal.loop-actor-init
loop-actor-init c = c.in_ok-kept.ensures.items
    ∙ sym (ap (map (first_state (contents c.args.scenario.now))) below_none_at)

pub loop-actor-preserved : goal.loop-actor-preserved
loop-actor-preserved c =
    c.in_ok-push.ensures.items ∙ ap (λ (ks : List KeptState). ks ++ c.in_ok-make.field-0 ∷ []) c.loop-actor.invariant
    ∙ map_numbers_next (first_state (contents c.args.scenario.now))
    c.loop-actor.actor c.in_ok-make.field-0 c.in_ok-make.ensures
