use Rattle.std.proofs.Common.{◌≡◌, false, take}
use Rattle.std.specs.List.{list_any}
use Rattle.scenario_file.specs.Reading.{contents}
use Rattle.world_rules.specs.Scenarios.{setup_of}
use Rattle.joined_histories.specs.Order.{waits_for}
use Rattle.joined_histories.proofs.waits.one_waits.Given as goal

abbrev pub invariant-loop-part : goal.invariant-loop-part
invariant-loop-part l =
    list_any (waits_for (setup_of (contents l.scenario)) l.kept.lists.items l.next) (take l.part-index l.parts) ≡ false
