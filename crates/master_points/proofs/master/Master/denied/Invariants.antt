use Rattle.std.proofs.Common.{◌≡◌, ◌<◌, ℕ, false, get_or}
use Rattle.interlocks.specs.declared.interlock.Interlock.{Interlock}
use Rattle.master_points.specs.Effects.{denies}
use Rattle.master_points.proofs.master.Master.denied.Given as goal

-- no interlock before this one denies
abbrev pub invariant-loop-place : goal.invariant-loop-place
invariant-loop-place l = (k : ℕ) (d : Interlock) → k < l.place →
    denies l.self.state l.number l.value (get_or l.interlocks k d) ≡ false
