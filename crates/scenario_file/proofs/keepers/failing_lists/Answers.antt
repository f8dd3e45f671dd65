-- The lists so far are those of the actors below, one of each.
use Rattle.std.proofs.Common.{sym, ◌∙◌}
use Rattle.scenario_file.specs.Keepers.{calls_of}
use Rattle.quorum_sets.proofs.Numbered.{map_more, map_start}
use Rattle.scenario_file.proofs.keepers.failing_lists.Goals as goal

pub loop-actor-init : goal.loop-actor-init
loop-actor-init c = c.new-lists.ensures ∙ sym (map_start (calls_of c.args.keepers.now))

pub loop-actor-preserved : goal.loop-actor-preserved
loop-actor-preserved c = rw (
  map_more (calls_of c.args.keepers.now) c.loop-actor.actor,
  ← c.loop-actor.invariant,
  ← c.in_ok-calls_of.ensures,
) c.in_ok-push.ensures.ok
