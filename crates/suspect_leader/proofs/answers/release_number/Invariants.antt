use Rattle.std.proofs.Common.{◌≡◌, ◌<◌, ℕ, false}
use Rattle.suspect_leader.specs.declared.saying.Saying.TheVariants.{RoundTrip}
use Rattle.suspect_leader.specs.Sayings.{is_among}
use Rattle.suspect_leader.specs.MeasureState.{IsMoved}
use Rattle.suspect_leader.proofs.answers.release_number.Given as goal

abbrev pub invariant-loop-to : goal.invariant-loop-to
invariant-loop-to l = IsMoved l.initial.pending.keys l.initial.early.keys l.pending.keys l.early.keys
    × ((j : ℕ) → j < l.to → is_among l.early.keys (RoundTrip j l.number) ≡ false)
