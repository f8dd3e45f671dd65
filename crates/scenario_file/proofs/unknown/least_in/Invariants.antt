use Rattle.std.proofs.Common.{◌≡◌}
use Rattle.toml.specs.View.{members_view}
use Rattle.scenario_file.specs.Unknown.{unknown_in, least_of}
use Rattle.scenario_file.proofs.unknown.least_in.Given as goal

abbrev pub invariant-loop-key : goal.invariant-loop-key
invariant-loop-key l =
    (goal.iterator-loop-key).can_next l.key-iterator
    × (goal.iterator-loop-key).is_finite l.key-iterator
    × (least_of l.best (unknown_in l.kind l.keys.at.now (members_view l.key-iterator)) ≡ least_of l.initial.best
    (unknown_in l.kind l.keys.at.now (members_view l.keys.table.now.entries)))
