use Rattle.std.proofs.Common.{◌≡◌, map}
use Rattle.std.specs.Option.{unwrap_or}
use Rattle.quorum_sets.specs.Masters.{numbers_below}
use Rattle.protocol_rules.specs.Words.{in_order}
use Rattle.suspect_leader.specs.MeasureState.{told_at}
use Rattle.suspect_leader.proofs.tables.all_told.Given as goal

abbrev pub invariant-loop-master : goal.invariant-loop-master
invariant-loop-master l =
    l.figures ≡ in_order (map (λ j. unwrap_or (told_at l.table.entries l.v j) l.untold) (numbers_below l.master))
