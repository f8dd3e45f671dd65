use Rattle.std.proofs.Common.{◌≡◌}
use Rattle.std.specs.List.{filter_map}
use Rattle.quorum_sets.specs.Masters.{numbers_below}
use Rattle.protocol_rules.specs.Words.{in_order}
use Rattle.suspect_leader.specs.MeasureState.{figure_at}
use Rattle.suspect_leader.proofs.measure.Measure.own_bound.Given as goal

abbrev pub invariant-loop-master : goal.invariant-loop-master
invariant-loop-master l = l.figures ≡ in_order (filter_map (figure_at l.fn.self) (numbers_below l.master))
