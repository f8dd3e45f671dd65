use Rattle.std.proofs.Common.{◌≡◌, take}
use Rattle.std.specs.List.{filter_map}
use Rattle.quorum_sets.specs.Masters.{numbers_below}
use Rattle.view_change.specs.ViewState.{at_place}
use Rattle.view_change.proofs.views.Views.quorum_of_reports.Given as goal

abbrev pub invariant-loop-master : goal.invariant-loop-master
invariant-loop-master l =
    l.reports ≡ take l.self-inside.sizes.q
    (filter_map (at_place l.self-inside.reports.entries l.self-inside.view) (numbers_below l.master))
