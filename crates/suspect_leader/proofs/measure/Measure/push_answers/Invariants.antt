use Rattle.std.proofs.Common.{◌≡◌, ◌++◌}
use Rattle.std.specs.List.{filter_map}
use Rattle.suspect_leader.specs.MeasureState.{answer_to}
use Rattle.suspect_leader.proofs.measure.Measure.push_answers.Given as goal

abbrev pub invariant-loop-saying : goal.invariant-loop-saying
invariant-loop-saying l =
    l.bodies.items ++ filter_map (answer_to l.fn.self.ticks l.fn.self.said) l.saying-iterator
    ≡ l.initial.bodies.items ++ filter_map (answer_to l.fn.self.ticks l.fn.self.said) l.fn.self.pending
