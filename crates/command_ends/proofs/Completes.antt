-- Why a call that nothing troubles ends with what its words and files may come to, or for want of memory. The contents
-- that were loaded are compared with those that are due, one by one: they are the same up to where one of both ends.
use Rattle.std.proofs.Common.{◌≡◌, ℕ, List, [], ◌∷◌, ◌++◌, Option, Some, Result, Ok, Err, refl, sym, ◌∙◌, ap, subst}
use Rattle.std.proofs.Common.{arith, ◌<◌, ◌≤◌, ◌⊎◌, inl, inr, append_assoc, append-nil, true, false, true≢false}
use Rattle.std.specs.Prelude.{Bool, length}
use Rattle.outside.specs.Faults.{HasRisen}
use Rattle.command_ends.specs.Steps.{Step}
use Rattle.command_ends.specs.Steps.Step.{Load, Gives, Refuses}
use Rattle.command_ends.specs.Calls.{Call, CauseOf, Comes, Loaded, IsContent, IsTooLong, PutsNothing}
use Rattle.command_ends.specs.Ended.{ErrorSink, Ends, Finishes, Told}
use Rattle.command_ends.specs.Complete.{IsAlike, Lies, IsDue, IsDueOrWant, Completes, IsFree, EndsFreely}
use Rattle.command_ends.specs.declared.refusal.Refusal.{Refusal}
use Rattle.command_ends.specs.declared.refusal.Refusal.TheVariants as refusal

abbrev pub is_load : Step → Bool
is_load (Load name most) = true
is_load _ = false

abbrev pub file_of : Step → List ℕ
file_of (Load name most) = name
file_of _ = []

abbrev room_of : Step → ℕ
room_of (Load name most) = most
room_of _ = 0

pub same-content : (held : Option (List ℕ)) (content other : List ℕ) → held ≡ Some content →
    IsContent held other → other ≡ content
same-content held content other is told = subst (λ h. IsContent h other) is told

pub status_of_want : (err : ErrorSink) (status : ℕ) → Told refusal.Memory err status → status ≡ 7
status_of_want err status (Told.whole is none line) = is
status_of_want err status (Told.begun is risen put) = is
status_of_want err status (Told.memory is put) = is

abbrev pub text_in : Step → List ℕ
text_in (Gives text) = text
text_in _ = []

abbrev pub is_text : Step → Bool
is_text (Gives text) = true
is_text _ = false

pub alike-refl : (step : Step) → IsAlike step step
alike-refl (Load name most) = refl
alike-refl (Gives text) = tt
alike-refl (Refuses why) = refl

pub alike-same : (one other : Step) → one ≡ other → IsAlike one other
alike-same one other is = subst (λ s. IsAlike one s) is (alike-refl one)

-- a step that is like a load or a refusal is that one
like-load : (one : Step) (name : List ℕ) (most : ℕ) → IsAlike one (Load name most) → one ≡ Load name most
like-load (Load other room) name most is = is
like-load (Gives text) name most is = is
like-load (Refuses why) name most is = is

-- How the step that a call came to stands to contents that lie there: it comes of them; or it loads a file that is there,
-- no longer than it may be, and didn't fail; or of these contents a file more is loaded.
data Meets (next : List (List ℕ) → Step → Type 0) (call : Call) (all : List (List ℕ)) (step : Step) : Type 0 where
  comes-here : next all step → Meets next call all step
  loads : (name content : List ℕ) (most : ℕ) → step ≡ Load name most → call.held name ≡ Some content → length content ≤ most
      → (HasRisen (call.faults_before name) (call.faults_after name) → ⊥) → Meets next call all step
  unfinished : (name : List ℕ) (most : ℕ) → next all (Load name most) → Meets next call all step

meets : (next : List (List ℕ) → Step → Type 0) → ((contents : List (List ℕ)) (one other : Step) → next contents one →
    next contents other → IsAlike one other)
    → (call : Call) (before contents more : List (List ℕ)) (step : Step) → Lies next call before contents
    → Loaded next call.held before more → next (before ++ more) step → Meets next call (before ++ contents) step
meets next certain call before [] [] step lies loaded comes = comes-here comes
meets next certain call before [] (x ∷ xs) step lies loaded comes =
    unfinished loaded.0 loaded.1
    (subst (λ contents. next contents (Load loaded.0 loaded.1)) (sym (append-nil before)) loaded.2)
meets next certain call before (y ∷ ys) [] step lies loaded comes =
    loads lies.0 y lies.1 (like-load step lies.0 lies.1
    (certain before step (Load lies.0 lies.1) (subst (λ contents. next contents step) (append-nil before) comes) lies.2))
    lies.3 lies.4 lies.5
meets next certain call before (y ∷ ys) (x ∷ xs) step lies loaded comes =
    let name : loaded.0 ≡ lies.0 =
    ap file_of (certain before (Load loaded.0 loaded.1) (Load lies.0 lies.1) loaded.2 lies.2) in
    let held : call.held loaded.0 ≡ Some y = ap call.held name ∙ lies.3 in
    let is : x ≡ y = same-content (call.held loaded.0) y x held loaded.3 in
    subst (λ all. Meets next call all step) (append_assoc before (y ∷ []) ys)
    (meets next certain call (before ++ y ∷ []) ys xs step lies.6
    (subst (λ z. Loaded next call.held (before ++ z ∷ []) xs) is loaded.5)
    (subst (λ contents. next contents step) (sym (append_assoc before (y ∷ []) xs))
    (subst (λ z. next (before ++ z ∷ xs) step) is comes)))

-- how a call ended that nothing was in the way of
abbrev Ended : (List (List ℕ) → List (List ℕ) → Step → Type 0) → Call → ErrorSink → ℕ → List (List ℕ) → Type 0
Ended next call err status contents =
    (status ≡ 7) ⊎ ((end : Step) × next call.words contents end × IsDue call err status end)

-- what it came to
comes-to : (next : List (List ℕ) → List (List ℕ) → Step → Type 0) (call : Call)
    (certain : (contents : List (List ℕ)) (one other : Step) → next call.words contents one →
    next call.words contents other → IsAlike one other)
    → (contents : List (List ℕ)) (step : Step) → IsFree next call contents → Comes (next call.words) call.held [] step
    → Meets (next call.words) call contents step
comes-to next call certain contents step free comes =
    meets (next call.words) certain call [] contents comes.0 step free.files comes.1 comes.2

module _ (next : List (List ℕ) → List (List ℕ) → Step → Type 0) (call : Call) (err : ErrorSink) (status : ℕ)
    (contents : List (List ℕ)) where
  -- a load that is due asks for nothing
  to-load : (name : List ℕ) (most : ℕ) → next call.words contents (Load name most) → Ended next call err status contents
  to-load name most comes = inr (Load name most, comes, tt)

  given : (text : List ℕ) → Meets (next call.words) call contents (Gives text) → IsDue call err status (Gives text) →
      Ended next call err status contents
  given text (comes-here comes) due = inr (Gives text, comes, due)
  given text (loads name content most is held short stays) due = absurd (true≢false (sym (ap is_load is)))
  given text (unfinished name most comes) due = to-load name most comes

  refused : (why : Refusal) → Meets (next call.words) call contents (Refuses why) → Told why err status →
      PutsNothing call → Ended next call err status contents
  refused why (loads name content most is held short stays) told nothing = absurd (true≢false (sym (ap is_load is)))
  refused why (unfinished name most comes) told nothing = to-load name most comes
  refused why (comes-here comes) (Told.whole status_is none line) nothing = inr (Refuses why, comes, (status_is, nothing))
  refused why (comes-here comes) (Told.begun status_is risen put) nothing = inr (Refuses why, comes, (status_is, nothing))
  refused why (comes-here comes) (Told.memory status_is put) nothing = inl status_is

  not-failed : (name : List ℕ) (most : ℕ) → Meets (next call.words) call contents (Load name most)
      → HasRisen (call.faults_before name) (call.faults_after name) → Ended next call err status contents
  not-failed name most (comes-here comes) risen = to-load name most comes
  not-failed name most (unfinished other room comes) risen = to-load other room comes
  not-failed name most (loads other content room is held short stays) risen =
      absurd (stays (subst (λ n. HasRisen (call.faults_before n) (call.faults_after n)) (ap file_of is) risen))

  not-long : (name : List ℕ) (most : ℕ) → Meets (next call.words) call contents (Load name most) →
      IsTooLong most (call.held name) → Ended next call err status contents
  not-long name most (comes-here comes) long = to-load name most comes
  not-long name most (unfinished other room comes) long = to-load other room comes
  not-long name most (loads other content room is held short stays) long =
      let above : most < length content = subst (IsTooLong most) (ap call.held (ap file_of is) ∙ held) long in
      let same : most ≡ room = ap room_of is in
      absurd (omega arith)

-- the same by how the call ended
by-result : (next : List (List ℕ) → List (List ℕ) → Step → Type 0) (call : Call) →
    ((contents : List (List ℕ)) (one other : Step) → next call.words contents one → next call.words contents other →
    IsAlike one other)
    → (err : ErrorSink) (status : ℕ) (result : Result (Unit {0}) Refusal) → CauseOf next call result →
    Finishes result err status
    → EndsFreely next call err status
by-result next call certain err status (Ok done) cause finish contents free =
    given next call err status contents cause.0 (comes-to next call certain contents (Gives cause.0) free cause.1)
    (finish.0, cause.2, finish.1)
by-result next call certain err status (Err refusal.Usage) cause finish contents free =
    refused next call err status contents refusal.Usage
    (comes-to next call certain contents (Refuses refusal.Usage) free cause.0) finish cause.1
by-result next call certain err status (Err (refusal.Fault name)) cause finish contents free =
    not-failed next call err status contents name cause.0
    (comes-to next call certain contents (Load name cause.0) free cause.1) cause.2
by-result next call certain err status (Err (refusal.TooLong name)) cause finish contents free =
    not-long next call err status contents name cause.0
    (comes-to next call certain contents (Load name cause.0) free cause.1) cause.2
by-result next call certain err status (Err (refusal.Scenario fault)) cause finish contents free =
    refused next call err status contents (refusal.Scenario fault)
    (comes-to next call certain contents (Refuses (refusal.Scenario fault)) free cause.0) finish cause.1
by-result next call certain err status (Err (refusal.Script fault number)) cause finish contents free =
    refused next call err status contents (refusal.Script fault number)
    (comes-to next call certain contents (Refuses (refusal.Script fault number)) free cause.0) finish cause.1
by-result next call certain err status (Err (refusal.Words fault number)) cause finish contents free =
    refused next call err status contents (refusal.Words fault number)
    (comes-to next call certain contents (Refuses (refusal.Words fault number)) free cause.0) finish cause.1
by-result next call certain err status (Err (refusal.History fault number)) cause finish contents free =
    refused next call err status contents (refusal.History fault number)
    (comes-to next call certain contents (Refuses (refusal.History fault number)) free cause.0) finish cause.1
by-result next call certain err status (Err (refusal.Pieces at)) cause finish contents free =
    refused next call err status contents (refusal.Pieces at)
    (comes-to next call certain contents (Refuses (refusal.Pieces at)) free cause.0) finish cause.1
by-result next call certain err status (Err (refusal.Keep kept_name kept_fault)) cause finish contents free =
    refused next call err status contents (refusal.Keep kept_name kept_fault)
    (comes-to next call certain contents (Refuses (refusal.Keep kept_name kept_fault)) free cause.0) finish cause.1
by-result next call certain err status (Err refusal.NotVerified) cause finish contents free =
    refused next call err status contents refusal.NotVerified
    (comes-to next call certain contents (Refuses refusal.NotVerified) free cause.0) finish cause.1
by-result next call certain err status (Err (refusal.NoAnswer lack)) cause finish contents free =
    refused next call err status contents (refusal.NoAnswer lack)
    (comes-to next call certain contents (Refuses (refusal.NoAnswer lack)) free cause.0) finish cause.1
by-result next call certain err status (Err refusal.Output) cause finish contents free =
    absurd (free.out cause.2)
by-result next call certain err status (Err refusal.Memory) cause finish contents free =
    inl (status_of_want err status finish)

-- Every call of which nothing is in the way ends with what comes of its words and files, or for want of memory, where what
-- comes next is one step, or one of several texts.
pub ends-freely : (next : List (List ℕ) → List (List ℕ) → Step → Type 0) (call : Call)
    → ((contents : List (List ℕ)) (one other : Step) → next call.words contents one → next call.words contents other →
    IsAlike one other)
    → (err : ErrorSink) (status : ℕ) → Ends next call err status → EndsFreely next call err status
ends-freely next call certain err status ends =
    by-result next call certain err status ends.result ends.cause ends.finish

-- and where it is known what may come, it ends with that, or with another text
pub completes : (next : List (List ℕ) → List (List ℕ) → Step → Type 0) (call : Call)
    → ((contents : List (List ℕ)) (one other : Step) → next call.words contents one → next call.words contents other →
    IsAlike one other)
    → (err : ErrorSink) (status : ℕ) → EndsFreely next call err status → Completes next call err status
completes next call certain err status freely last free =
    by (freely free.contents (record { files = free.files; out = free.out }))
  where
    by : (status ≡ 7) ⊎ ((end : Step) × next call.words free.contents end × IsDue call err status end)
        → (end : Step) × IsAlike last end × next call.words free.contents end × IsDueOrWant call err status end
    by (inl want) = (last, alike-refl last, free.comes, IsDueOrWant.memory want)
    by (inr (end, comes, due)) =
        (end, certain free.contents last end free.comes comes, comes, IsDueOrWant.due due)
