use Rattle.std.proofs.Common.{◌≡◌}
use Rattle.std.specs.List.{filter_map}
use Rattle.quorum_sets.specs.Masters.{numbers_below}
use Rattle.delay_times.specs.Sayings.{said_at}
use Rattle.delay_times.proofs.sayings.sayings_of.Given as goal

-- those at the places so far
abbrev pub invariant-loop-place : goal.invariant-loop-place
invariant-loop-place l = l.sayings.items ≡ filter_map (said_at l.happenings) (numbers_below l.place)
