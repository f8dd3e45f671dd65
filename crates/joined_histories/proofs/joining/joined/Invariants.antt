use Rattle.std.proofs.Common.{◌-◌, length}
use Rattle.std.specs.Prelude.{MatchOption}
use Rattle.scenario_file.specs.Reading.{contents}
use Rattle.world_rules.specs.Scenarios.{setup_of}
use Rattle.joint_lists.specs.Joint.{count}
use Rattle.joined_histories.specs.Order.{IsDue, NoneLeft}
use Rattle.joined_histories.specs.Amid.{IsAmid}
use Rattle.joined_histories.proofs.joining.joined.Given as goal

-- what was joined is that of a scenario's stations, and the actor that comes next may
abbrev pub invariant-loop-due : goal.invariant-loop-due
invariant-loop-due l =
    IsAmid (contents l.scenario) l.kept.lists.items l.next.items l.so_far
    × MatchOption l.due (NoneLeft l.kept.lists.items l.next.items)
    (IsDue (setup_of (contents l.scenario)) l.kept.lists.items l.next.items)

abbrev pub decreases-loop-due : goal.decreases-loop-due
decreases-loop-due l = count l.kept.lists.items - length l.so_far.history
