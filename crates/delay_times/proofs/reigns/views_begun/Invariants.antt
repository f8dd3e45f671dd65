use Rattle.std.proofs.Common.{◌≡◌, ◌∷◌, take}
use Rattle.std.specs.List.{filter_map}
use Rattle.quorum_sets.specs.Masters.{numbers_below}
use Rattle.delay_times.specs.Reigns.{begun_at, latest_view}
use Rattle.delay_times.proofs.reigns.views_begun.Given as goal

-- those of the happenings so far, and the latest of them
abbrev pub invariant-loop-happening : goal.invariant-loop-happening
invariant-loop-happening l =
    (l.begun.items ≡ record { view = 0; stamp = 0 } ∷ filter_map (begun_at l.happenings)
    (numbers_below l.happening-index))
    × (l.latest ≡ latest_view (take l.happening-index l.happenings))
