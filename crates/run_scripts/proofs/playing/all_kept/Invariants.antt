use Rattle.std.proofs.Common.{◌≡◌, map}
use Rattle.quorum_sets.specs.Masters.{numbers_below}
use Rattle.scenario_file.specs.Reading.{contents}
use Rattle.world_history.specs.KeptState.{first_state}
use Rattle.run_scripts.proofs.playing.all_kept.Given as goal

-- the actors so far stand before their first events
abbrev pub invariant-loop-actor : goal.invariant-loop-actor
invariant-loop-actor l = l.kept.items ≡ map (first_state (contents l.scenario)) (numbers_below l.actor)
