-- The four facts about leaves follow from the rules alone, with no code between: few to a key, one for each
-- group of bodies, used on from entry to entry, and enough.
use Rattle.world_history.proofs.LeavesSuffice.{leaves_are_few, leaves_used_next, groups_use_leaves, leaves_enough}
use Rattle.world_history.proofs.laws.leaves_suffice.Goals as goal

pub returns-clause-few : goal.returns-clause-few
returns-clause-few c = leaves_are_few

pub returns-clause-next : goal.returns-clause-next
returns-clause-next c = leaves_used_next

pub returns-clause-groups : goal.returns-clause-groups
returns-clause-groups c = groups_use_leaves

pub returns-clause-enough : goal.returns-clause-enough
returns-clause-enough c = leaves_enough
