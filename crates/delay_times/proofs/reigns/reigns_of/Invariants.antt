use Rattle.std.proofs.Common.{◌≡◌}
use Rattle.std.specs.List.{filter_map}
use Rattle.quorum_sets.specs.Masters.{numbers_below}
use Rattle.delay_times.specs.Reigns.{reign_at}
use Rattle.delay_times.proofs.reigns.reigns_of.Given as goal

-- the views so far
abbrev pub invariant-loop-place : goal.invariant-loop-place
invariant-loop-place l =
    l.reigns.items ≡ filter_map (reign_at l.happenings l.masters l.entries l.begun.items) (numbers_below l.place)
