-- The steps of a merge, file by file: the scenario's, then each that a station kept, and what comes of all.
use Rattle.std.proofs.Common.{◌≡◌, ◌≤◌, ℕ, Bool, true, false, List, [], ◌∷◌, Option, None, Some, Result, Ok, Err, refl, sym}
use Rattle.std.proofs.Common.{◌∙◌, ap, subst, length, map, get_or, nat_le, nat_lt}
use Rattle.std.proofs.lemmas.Bool.{and_parts, leb-true, ltb-true}
use Rattle.std.proofs.lemmas.Option.{slice_get-map, slice_get-get_or, slice_get_past}
use Rattle.std.specs.Prelude.{option_map, slice_get}
use Rattle.std.specs.declared.vec.Vec.{Vec}
use Rattle.std.specs.declared.alloc.Global.{Global}
use Rattle.scenario_file.specs.Reading.{Contents}
use Rattle.command_words.specs.declared.command_line.TheConstants.{MOST_KEEPS}
use Rattle.command_ends.specs.declared.limits.TheConstants.{MOST_KEPT_BYTES}
use Rattle.command_ends.specs.Steps.{Step}
use Rattle.command_ends.specs.Steps.Step.{Load, Gives, Refuses}
use Rattle.command_ends.specs.Calls.{TextCause, CountsStay, FaultsOfFiles}
use Rattle.command_ends.specs.Complete.{IsAlike}
use Rattle.command_ends.specs.declared.refusal.KeepFault.{KeepFault}
use Rattle.command_ends.specs.declared.refusal.Refusal.{Refusal}
use Rattle.command_ends.specs.declared.refusal.Refusal.TheVariants as refusal
use Rattle.command_ends.proofs.Completes.{alike-same}
use Rattle.command_ends.proofs.Courses.{comes-now}
use Rattle.run_commands.specs.Readers.{Readers, MergeGives, are_few, keep_refusal}
use Rattle.command_files.specs.Scenarios.{scenario_at, scenario_refusal}
use Rattle.run_commands.specs.Reading.{with_scenario}
use Rattle.run_commands.specs.Course.{MergeEnds, MergeNext, MergeCourse, MergeStep}
use Rattle.run_commands.specs.Told.{told_merges}
use Rattle.run_commands.proofs.Scripting.{accepted-value, accepted-fault}
use Rattle.run_commands.proofs.Threading.{alike-accepted}

-- ---- The names of the files, by places.

-- the name at a place that there is
pub name-there : {X : Type 0} (v : X → List ℕ) (xs : List X) (i n : ℕ) (x : X) → i ≡ n → true ≡ nat_lt i (length xs) →
    x ≡ get_or xs i x → slice_get (map v xs) n ≡ Some (v x)
name-there v xs i n x at below is =
    slice_get-map v xs n ∙ ap (option_map v) (ap (λ k. slice_get xs k) (sym at)
    ∙ slice_get-get_or xs i x (ltb-true i (length xs) (sym below)) ∙ ap Some (sym is))

-- there is none past the last
pub none-there : {X : Type 0} (v : X → List ℕ) (xs : List X) (i n : ℕ) → i ≡ n → length xs ≤ i →
    slice_get (map v xs) n ≡ None
none-there v xs i n at past =
    slice_get-map v xs n ∙ ap (option_map v) (ap (λ k. slice_get xs k) (sym at) ∙ slice_get_past xs i past)

-- ---- What comes next.

module _ (r : Readers) (scenario : List ℕ) (keeps : List (List ℕ)) (first : List ℕ) where
  pub merge-due : (kept : List (List ℕ)) (name : List ℕ) (c : Contents) → scenario_at first ≡ Ok c →
      slice_get keeps (length kept) ≡ Some name →
      MergeCourse r scenario keeps (first ∷ kept) (Load name MOST_KEPT_BYTES)
  merge-due kept name c one there =
      accepted-value scenario_refusal (scenario_at first) c
      (λ d. MergeNext r d keeps kept (slice_get keeps (length kept))) (Load name MOST_KEPT_BYTES) one
      (subst (λ o. MergeNext r c keeps kept o (Load name MOST_KEPT_BYTES)) (sym there) refl)

  pub merge-refused : (w : Refusal) → ((onward : Contents → Step) → with_scenario first onward ≡ Refuses w) →
      MergeCourse r scenario keeps (first ∷ []) (Refuses w)
  merge-refused w one = accepted-fault scenario_refusal (scenario_at first)
      (λ d. MergeNext r d keeps [] (slice_get keeps 0)) w one

  pub merge-last : (kept : List (List ℕ)) (step : Step) (c : Contents) → scenario_at first ≡ Ok c →
      slice_get keeps (length kept) ≡ None → MergeEnds r c keeps kept (r.join_fault c kept) step →
      MergeCourse r scenario keeps (first ∷ kept) step
  merge-last kept step c one none ends =
      accepted-value scenario_refusal (scenario_at first) c
      (λ d. MergeNext r d keeps kept (slice_get keeps (length kept))) step one
      (subst (λ o. MergeNext r c keeps kept o step) (sym none) ends)

-- ---- The text that was made, or why there is none, is what may come now.

-- the refusal of a file
abbrev IsFault : Readers → Contents → List (List ℕ) → List (List ℕ) → Refusal → Type 0
IsFault r c names kept why =
    (fault : ℕ × KeepFault) × (r.join_fault c kept ≡ Some fault) × (why ≡ keep_refusal names fault)

module _ (next : List (List ℕ) → Step → Type 0) (held : List ℕ → Option (List ℕ)) (first last : List ℕ → ℕ)
    (before : List (List ℕ)) (r : Readers) (c : Contents) (names kept : List (List ℕ))
    (due : (step : Step) → MergeEnds (told_merges r) c names kept (r.join_fault c kept) step → next before step) where
  refused : (why : Refusal) → IsFault r c names kept why → next before (Refuses why)
  refused why (fault, is, which) = due (Refuses why)
      (subst (λ o. MergeEnds (told_merges r) c names kept o (Refuses why)) (sym is) (ap Refuses which))

  pub merge-now : (result : Result (Vec ℕ Global) Refusal) → MergeGives r c names kept result →
      TextCause next held first last before result
  merge-now (Ok text) (history, none, may, is, tells) =
      comes-now next held before (Gives text.items) (due (Gives text.items)
      (subst (λ o. MergeEnds (told_merges r) c names kept o (Gives text.items)) (sym none)
      (history, (may, tells), ap Gives is)))
  merge-now (Err refusal.Memory) gives = tt
  merge-now (Err refusal.Usage) gives = comes-now next held before _ (refused refusal.Usage gives)
  merge-now (Err (refusal.Fault name)) gives = absurd (let is = gives.2 in cc)
  merge-now (Err (refusal.TooLong name)) gives = absurd (let is = gives.2 in cc)
  merge-now (Err (refusal.Scenario fault)) gives = comes-now next held before _ (refused (refusal.Scenario fault) gives)
  merge-now (Err (refusal.Script fault number)) gives =
      comes-now next held before _ (refused (refusal.Script fault number) gives)
  merge-now (Err (refusal.Words fault number)) gives =
      comes-now next held before _ (refused (refusal.Words fault number) gives)
  merge-now (Err (refusal.History fault number)) gives =
      comes-now next held before _ (refused (refusal.History fault number) gives)
  merge-now (Err (refusal.Pieces at)) gives = comes-now next held before _ (refused (refusal.Pieces at) gives)
  merge-now (Err (refusal.Keep name fault)) gives =
      comes-now next held before _ (refused (refusal.Keep name fault) gives)
  merge-now (Err refusal.NotVerified) gives = comes-now next held before _ (refused refusal.NotVerified gives)
  merge-now (Err (refusal.NoAnswer lack)) gives = comes-now next held before _ (refused (refusal.NoAnswer lack) gives)
  merge-now (Err refusal.Output) gives = absurd (let is = gives.2 in cc)

-- so many files as there may be
pub at-most : (count : ℕ) → are_few count ≡ true → count ≤ MOST_KEEPS
at-most count few = leb-true count MOST_KEEPS (and_parts (nat_le 1 count) (nat_le count MOST_KEEPS) few).1

-- nothing is loaded any more
pub merge-faults : (before after : List ℕ → ℕ) (result : Result (Vec ℕ Global) Refusal) → CountsStay before after →
    FaultsOfFiles result before after
merge-faults before after (Ok text) stay = stay
merge-faults before after (Err refusal.Usage) stay = stay
merge-faults before after (Err (refusal.Fault name)) stay = tt
merge-faults before after (Err (refusal.TooLong name)) stay = stay
merge-faults before after (Err (refusal.Scenario fault)) stay = stay
merge-faults before after (Err (refusal.Script fault number)) stay = stay
merge-faults before after (Err (refusal.Words fault number)) stay = stay
merge-faults before after (Err (refusal.History fault number)) stay = stay
merge-faults before after (Err (refusal.Pieces at)) stay = stay
merge-faults before after (Err (refusal.Keep name fault)) stay = stay
merge-faults before after (Err refusal.NotVerified) stay = stay
merge-faults before after (Err (refusal.NoAnswer lack)) stay = stay
merge-faults before after (Err refusal.Output) stay = stay
merge-faults before after (Err refusal.Memory) stay = stay

-- ---- What comes next in a merge is one step, or one of several texts.

alike-ends : (r : Readers) (c : Contents) (keeps kept : List (List ℕ)) (fault : Option (ℕ × KeepFault))
    (one other : Step) → MergeEnds r c keeps kept fault one → MergeEnds r c keeps kept fault other → IsAlike one other
alike-ends r c keeps kept (Some fault) one other a b = alike-same one other (a ∙ sym b)
alike-ends r c keeps kept None one other (a, may_a, is_a) (b, may_b, is_b) =
    subst (λ s. IsAlike s other) (sym is_a) (subst (λ s. IsAlike (Gives (r.text_of c a)) s) (sym is_b) tt)

alike-next : (r : Readers) (c : Contents) (keeps kept : List (List ℕ)) (name : Option (List ℕ)) (one other : Step) →
    MergeNext r c keeps kept name one → MergeNext r c keeps kept name other → IsAlike one other
alike-next r c keeps kept (Some name) one other a b = alike-same one other (a ∙ sym b)
alike-next r c keeps kept None one other a b = alike-ends r c keeps kept (r.join_fault c kept) one other a b

pub alike-merge : (r : Readers) (few : Bool) (scenario : List ℕ) (keeps contents : List (List ℕ)) (one other : Step) →
    MergeStep r few scenario keeps contents one → MergeStep r few scenario keeps contents other → IsAlike one other
alike-merge r false scenario keeps contents one other a b = alike-same one other (a ∙ sym b)
alike-merge r true scenario keeps [] one other a b = alike-same one other (a ∙ sym b)
alike-merge r true scenario keeps (x ∷ kept) one other a b =
    alike-accepted scenario_refusal (scenario_at x)
    (λ c. MergeNext r c keeps kept (slice_get keeps (length kept)))
    (λ c. alike-next r c keeps kept (slice_get keeps (length kept))) one other a b

-- ---- So many files as there may be, and others.

module _ (r : Readers) (few : Bool) (scenario : List ℕ) (keeps : List (List ℕ)) (held : List ℕ → Option (List ℕ))
    (first last : List ℕ → ℕ) (result : Result (Vec ℕ Global) Refusal) where
  pub few-enough : few ≡ true → TextCause (MergeCourse r scenario keeps) held first last [] result →
      TextCause (MergeStep r few scenario keeps) held first last [] result
  few-enough is cause = subst (λ b. TextCause (MergeStep r b scenario keeps) held first last [] result) (sym is) cause

  pub not-few : few ≡ false → result ≡ Err refusal.Usage →
      TextCause (MergeStep r few scenario keeps) held first last [] result
  not-few is usage =
      subst (λ x. TextCause (MergeStep r few scenario keeps) held first last [] x) (sym usage)
      (subst (λ b. TextCause (MergeStep r b scenario keeps) held first last [] (Err refusal.Usage))
      (sym is) (comes-now (MergeStep r false scenario keeps) held [] (Refuses refusal.Usage) refl))
