-- So far answers have only moved, and none of those that waited for a ping among the bodies gone over waits any more.
use Rattle.std.proofs.Common.{◌≡◌, ◌<◌, ℕ, true, false, take}
use Rattle.std.specs.List.{list_any}
use Rattle.protocol_rules.specs.Measures.{pings_said}
use Rattle.suspect_leader.specs.declared.saying.Saying.TheVariants.{RoundTrip}
use Rattle.suspect_leader.specs.Sayings.{is_among}
use Rattle.suspect_leader.specs.MeasureState.{IsMoved}
use Rattle.suspect_leader.proofs.answers.release.Given as goal

abbrev pub invariant-loop-body : goal.invariant-loop-body
invariant-loop-body l =
    IsMoved l.initial.pending.keys l.initial.early.keys l.pending.keys l.early.keys
    × ((to number : ℕ) → to < l.masters → list_any (pings_said number) (take l.body-index l.bodies) ≡ true →
    is_among l.early.keys (RoundTrip to number) ≡ false)
