use Rattle.std.proofs.Common.{◌≡◌}
use Rattle.station_turns.specs.Turns.{stationed}
use Rattle.station_turns.proofs.SkipsOfTurn.{Skips}
use Rattle.station_turns.proofs.skipping.draw.Given as goal

-- so many skips were made, and nothing is counted for them
abbrev pub invariant-loop-skip : goal.invariant-loop-skip
invariant-loop-skip l =
    Skips (stationed l.initial.live) l.held l._skip (stationed l.live)
    × ((l.live.used ≡ l.initial.live.used) × (l.live.count ≡ l.initial.live.count))
