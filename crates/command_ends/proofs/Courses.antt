-- The steps of a command after one file more.
use Rattle.std.proofs.Common.{◌≡◌, ◌≤◌, ℕ, List, [], ◌∷◌, ◌++◌, Option, Result, Ok, Err, sym, subst, length}
use Rattle.std.proofs.Common.{append_assoc, append-nil}
use Rattle.std.specs.declared.vec.Vec.{Vec}
use Rattle.std.specs.declared.alloc.Global.{Global}
use Rattle.outside.specs.Faults.{HasRisen}
use Rattle.command_ends.specs.Steps.{Step}
use Rattle.command_ends.specs.Steps.Step.{Load, Gives, Refuses}
use Rattle.command_ends.specs.Calls.{IsContent, IsTooLong, Loaded, Comes, TextCause, CountsStay}
use Rattle.command_ends.specs.Loaded.{LoadCause}
use Rattle.command_ends.specs.declared.refusal.Refusal.{Refusal}
use Rattle.command_ends.specs.declared.refusal.Refusal.TheVariants as refusal

-- the step that is due now
pub comes-now : (next : List (List ℕ) → Step → Type 0) (held : List ℕ → Option (List ℕ))
    (before : List (List ℕ)) (step : Step)
    → next before step → Comes next held before step
comes-now next held before step is = ([], tt, subst (λ contents. next contents step) (sym (append-nil before)) is)

-- what files hold is the same after a load
loaded-same : (next : List (List ℕ) → Step → Type 0) (held later : List ℕ → Option (List ℕ)) →
    ((name : List ℕ) → later name ≡ held name)
    → (before more : List (List ℕ)) → Loaded next later before more → Loaded next held before more
loaded-same next held later same before [] loaded = tt
loaded-same next held later same before (content ∷ more) (name, most, due, told, short, rest) = (
  name,
  most,
  due,
  subst (λ h. IsContent h content) (same name) told,
  short,
  loaded-same next held later same (before ++ content ∷ []) more rest,
)

-- a step that comes after one file more
comes-after : (next : List (List ℕ) → Step → Type 0) (held later : List ℕ → Option (List ℕ)) (before : List (List ℕ))
    (name content : List ℕ) (most : ℕ) (step : Step)
    → next before (Load name most) → IsContent (held name) content → length content ≤ most →
    ((other : List ℕ) → later other ≡ held other)
    → Comes next later (before ++ content ∷ []) step → Comes next held before step
comes-after next held later before name content most step due told short same (more, loaded, last) = (
  content ∷ more,
  (name, most, due, told, short, loaded-same next held later same (before ++ content ∷ []) more loaded),
  subst (λ contents. next contents step) (append_assoc before (content ∷ []) more) last,
)

-- why there is a text or none, after one file more
pub after-load : (next : List (List ℕ) → Step → Type 0) (held later : List ℕ → Option (List ℕ))
    (first second last : List ℕ → ℕ)
    (before : List (List ℕ)) (name content : List ℕ) {most : ℕ} (result : Result (Vec ℕ Global) Refusal)
    → next before (Load name most) → IsContent (held name) content → length content ≤ most →
    ((other : List ℕ) → later other ≡ held other)
    → CountsStay first second → TextCause next later second last (before ++ content ∷ []) result →
    TextCause next held first last before result
after-load next held later first second last before name content {most} (Ok text) due told short same stay cause =
    comes-after next held later before name content most (Gives text.items) due told short same cause
after-load next held later first second last before name content {most} (Err (refusal.Fault failed))
    due told short same stay cause = (
      cause.0,
      comes-after next held later before name content most (Load failed cause.0) due told short same cause.1,
      subst (λ count. HasRisen count (last failed)) (stay failed) cause.2,
    )
after-load next held later first second last before name content {most} (Err (refusal.TooLong long))
    due told short same stay cause = (
      cause.0,
      comes-after next held later before name content most (Load long cause.0) due told short same cause.1,
      subst (IsTooLong cause.0) (same long) cause.2,
    )
after-load next held later first second last before name content {most} (Err refusal.Memory) due told short same stay cause =
    tt
after-load next held later first second last before name content {most} (Err refusal.Output) due told short same stay cause =
    absurd cause
after-load next held later first second last before name content {most} (Err refusal.Usage) due told short same stay cause =
    comes-after next held later before name content most (Refuses refusal.Usage) due told short same cause
after-load next held later first second last before name content {most} (Err (refusal.Scenario fault))
    due told short same stay cause =
    comes-after next held later before name content most (Refuses (refusal.Scenario fault)) due told short same cause
after-load next held later first second last before name content {most} (Err (refusal.Script fault number))
    due told short same stay cause =
    comes-after next held later before name content most (Refuses (refusal.Script fault number)) due told short same cause
after-load next held later first second last before name content {most} (Err (refusal.Words fault number))
    due told short same stay cause =
    comes-after next held later before name content most (Refuses (refusal.Words fault number)) due told short same cause
after-load next held later first second last before name content {most} (Err (refusal.History fault number))
    due told short same stay cause =
    comes-after next held later before name content most (Refuses (refusal.History fault number)) due told short same cause
after-load next held later first second last before name content {most} (Err refusal.NotVerified)
    due told short same stay cause =
    comes-after next held later before name content most (Refuses refusal.NotVerified) due told short same cause
after-load next held later first second last before name content {most} (Err (refusal.NoAnswer lack))
    due told short same stay cause =
    comes-after next held later before name content most (Refuses (refusal.NoAnswer lack)) due told short same cause
after-load next held later first second last before name content {most} (Err (refusal.Pieces at))
    due told short same stay cause =
    comes-after next held later before name content most (Refuses (refusal.Pieces at)) due told short same cause
after-load next held later first second last before name content {most} (Err (refusal.Keep kept_name kept_fault))
    due told short same stay cause =
    comes-after next held later before name content most (Refuses (refusal.Keep kept_name kept_fault)) due told short same cause

-- the file that is due can't be loaded
pub load-failed : (next : List (List ℕ) → Step → Type 0) (held : List ℕ → Option (List ℕ)) (first last : List ℕ → ℕ)
    (before : List (List ℕ))
    (name : List ℕ) {most : ℕ} (why : Refusal) → next before (Load name most) →
    LoadCause most (held name) (first name) (last name) name (Err why)
    → TextCause next held first last before (Err why)
load-failed next held first last before name {most} (refusal.Fault named) due cause = (
  most,
  comes-now next held before (Load named most) (subst (λ n. next before (Load n most)) (sym cause.0) due),
  subst (λ n. HasRisen (first n) (last n)) (sym cause.0) cause.1,
)
load-failed next held first last before name {most} (refusal.TooLong named) due cause = (
  most,
  comes-now next held before (Load named most) (subst (λ n. next before (Load n most)) (sym cause.0) due),
  subst (λ n. IsTooLong most (held n)) (sym cause.0) cause.1,
)
load-failed next held first last before name {most} refusal.Memory due cause = tt
load-failed next held first last before name {most} refusal.Usage due cause = absurd cause
load-failed next held first last before name {most} (refusal.Scenario fault) due cause = absurd cause
load-failed next held first last before name {most} (refusal.Script fault number) due cause = absurd cause
load-failed next held first last before name {most} (refusal.Words fault number) due cause = absurd cause
load-failed next held first last before name {most} (refusal.History fault number) due cause = absurd cause
load-failed next held first last before name {most} refusal.NotVerified due cause = absurd cause
load-failed next held first last before name {most} (refusal.NoAnswer lack) due cause = absurd cause
load-failed next held first last before name {most} (refusal.Pieces at) due cause = absurd cause
load-failed next held first last before name {most} (refusal.Keep kept_name kept_fault) due cause = absurd cause
load-failed next held first last before name {most} refusal.Output due cause = absurd cause
