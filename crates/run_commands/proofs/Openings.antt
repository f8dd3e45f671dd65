-- A file more is loaded and read.
use Rattle.std.proofs.Common.{◌≡◌, ◌≤◌, ℕ, List, length, [], ◌∷◌, ◌++◌, Option, Result, Ok, Err, subst}
use Rattle.std.specs.Prelude.{IfOk}
use Rattle.std.specs.declared.vec.Vec.{Vec}
use Rattle.std.specs.declared.alloc.Global.{Global}
use Rattle.command_ends.specs.Steps.{Step}
use Rattle.command_ends.specs.Steps.Step.{Load, Gives, Refuses}
use Rattle.command_ends.specs.Calls.{IsContent, TextCause, CountsStay}
use Rattle.command_ends.specs.declared.limits.TheConstants.{MOST_BYTES}
use Rattle.command_ends.specs.Loaded.{LoadCause}
use Rattle.command_ends.specs.declared.refusal.Refusal.{Refusal}
use Rattle.command_ends.specs.declared.refusal.Refusal.TheVariants as refusal
use Rattle.command_ends.proofs.Courses.{comes-now, after-load, load-failed}
use Rattle.run_commands.specs.Opened.{LeadsTo, Leads, IsRead, IsOf, OpenCause}
use Rattle.run_commands.specs.Made.{Makes}

-- a content that was loaded and read
pub opened : {A V : Type 0} (reads : List ℕ → (V → Step) → Step) (shown : A → V) (held : Option (List ℕ))
    (before after : ℕ) (name : List ℕ)
    (loaded : Vec ℕ Global) (result : Result A Refusal) → LoadCause MOST_BYTES held before after name (Ok loaded) →
    Leads reads shown loaded.items result
    → OpenCause reads shown held before after name result
opened reads shown held before after name loaded (Ok value) cause leads = (loaded.items, cause.0, cause.1, leads)
opened reads shown held before after name loaded (Err refusal.Memory) cause leads = tt
opened reads shown held before after name loaded (Err (refusal.Fault named)) cause leads = absurd leads
opened reads shown held before after name loaded (Err (refusal.TooLong named)) cause leads = absurd leads
opened reads shown held before after name loaded (Err refusal.Output) cause leads = absurd leads
opened reads shown held before after name loaded (Err refusal.Usage) cause leads =
    (loaded.items, cause.0, cause.1, leads)
opened reads shown held before after name loaded (Err (refusal.Scenario fault)) cause leads =
    (loaded.items, cause.0, cause.1, leads)
opened reads shown held before after name loaded (Err (refusal.Script fault number)) cause leads =
    (loaded.items, cause.0, cause.1, leads)
opened reads shown held before after name loaded (Err (refusal.Words fault number)) cause leads =
    (loaded.items, cause.0, cause.1, leads)
opened reads shown held before after name loaded (Err (refusal.History fault number)) cause leads =
    (loaded.items, cause.0, cause.1, leads)
opened reads shown held before after name loaded (Err refusal.NotVerified) cause leads =
    (loaded.items, cause.0, cause.1, leads)
opened reads shown held before after name loaded (Err (refusal.NoAnswer lack)) cause leads =
    (loaded.items, cause.0, cause.1, leads)
opened reads shown held before after name loaded (Err (refusal.Pieces at)) cause leads =
    (loaded.items, cause.0, cause.1, leads)
opened reads shown held before after name loaded (Err (refusal.Keep kept_name kept_fault)) cause leads =
    (loaded.items, cause.0, cause.1, leads)

-- what was read from a content that was loaded is the file's
pub found-in : {A : Type 0} (Holds : A → List ℕ → Type 0) (held : Option (List ℕ)) (content read : List ℕ)
    (result : Result A Refusal) → read ≡ content
    → IsContent held content → length content ≤ MOST_BYTES → IfOk result (λ x. Holds x read) →
    IfOk result (λ x. IsOf held (Holds x))
found-in Holds held content read (Ok value) same told short is = (content, told, short, subst (Holds value) same is)
found-in Holds held content read (Err why) same told short is = tt

-- why there is a text or none, after one file more was read
pub after-open : {A V : Type 0} (next : List (List ℕ) → Step → Type 0) (held later : List ℕ → Option (List ℕ))
    (first second last : List ℕ → ℕ)
    (before : List (List ℕ)) (name : List ℕ) (reads : List ℕ → (V → Step) → Step) (shown : A → V) (value : A)
    (result : Result (Vec ℕ Global) Refusal)
    → next before (Load name MOST_BYTES) → IsRead reads shown (held name) (Ok value) →
    ((other : List ℕ) → later other ≡ held other) → CountsStay first second
    → ((content : List ℕ) → LeadsTo reads content (shown value) →
    TextCause next later second last (before ++ content ∷ []) result)
    → TextCause next held first last before result
after-open next held later first second last before name reads shown value result due read same stay cause =
    after-load next held later first second last before name read.0 result due read.1 read.2 same stay
    (cause read.0 read.3)

-- the file that is due isn't accepted
pub open-refused : {A V : Type 0} (next : List (List ℕ) → Step → Type 0) (held : List ℕ → Option (List ℕ))
    (first last : List ℕ → ℕ)
    (before : List (List ℕ)) (name : List ℕ) (reads : List ℕ → (V → Step) → Step) (shown : A → V) (why : Refusal)
    → next before (Load name MOST_BYTES) → OpenCause reads shown (held name) (first name) (last name) name (Err why)
    → ((content : List ℕ) → (w : Refusal) → ((onward : V → Step) → reads content onward ≡ Refuses w) →
    next (before ++ content ∷ []) (Refuses w))
    → TextCause next held first last before (Err why)
open-refused next held first last before name reads shown (refusal.Fault named) due cause refuses =
    load-failed next held first last before name (refusal.Fault named) due cause
open-refused next held first last before name reads shown (refusal.TooLong named) due cause refuses =
    load-failed next held first last before name (refusal.TooLong named) due cause
open-refused next held first last before name reads shown refusal.Memory due cause refuses = tt
open-refused next held first last before name reads shown refusal.Output due cause refuses = absurd cause.3
open-refused next held first last before name reads shown refusal.Usage due cause refuses =
    (cause.0 ∷ [], (name, MOST_BYTES, due, cause.1, cause.2, tt), refuses cause.0 refusal.Usage cause.3)
open-refused next held first last before name reads shown (refusal.Scenario fault) due cause refuses =
    (cause.0 ∷ [], (name, MOST_BYTES, due, cause.1, cause.2, tt), refuses cause.0 (refusal.Scenario fault) cause.3)
open-refused next held first last before name reads shown (refusal.Script fault number) due cause refuses =
    (cause.0 ∷ [], (name, MOST_BYTES, due, cause.1, cause.2, tt), refuses cause.0 (refusal.Script fault number) cause.3)
open-refused next held first last before name reads shown (refusal.Words fault number) due cause refuses =
    (cause.0 ∷ [], (name, MOST_BYTES, due, cause.1, cause.2, tt), refuses cause.0 (refusal.Words fault number) cause.3)
open-refused next held first last before name reads shown (refusal.History fault number) due cause refuses =
    (cause.0 ∷ [], (name, MOST_BYTES, due, cause.1, cause.2, tt), refuses cause.0 (refusal.History fault number) cause.3)
open-refused next held first last before name reads shown refusal.NotVerified due cause refuses =
    (cause.0 ∷ [], (name, MOST_BYTES, due, cause.1, cause.2, tt), refuses cause.0 refusal.NotVerified cause.3)
open-refused next held first last before name reads shown (refusal.NoAnswer lack) due cause refuses =
    (cause.0 ∷ [], (name, MOST_BYTES, due, cause.1, cause.2, tt), refuses cause.0 (refusal.NoAnswer lack) cause.3)
open-refused next held first last before name reads shown (refusal.Pieces at) due cause refuses =
    (cause.0 ∷ [], (name, MOST_BYTES, due, cause.1, cause.2, tt), refuses cause.0 (refusal.Pieces at) cause.3)
open-refused next held first last before name reads shown (refusal.Keep kept_name kept_fault) due cause refuses =
    (cause.0 ∷ [], (name, MOST_BYTES, due, cause.1, cause.2, tt), refuses cause.0 (refusal.Keep kept_name kept_fault) cause.3)

-- what is made without a file is what is due
pub made-now : (next : List (List ℕ) → Step → Type 0) (held : List ℕ → Option (List ℕ)) (first last : List ℕ → ℕ)
    (before : List (List ℕ)) (step : Step)
    (result : Result (Vec ℕ Global) Refusal) → next before step → Makes step result →
    TextCause next held first last before result
made-now next held first last before step (Ok text) due makes =
    comes-now next held before (Gives text.items) (subst (λ s. next before s) makes due)
made-now next held first last before step (Err refusal.Memory) due makes = tt
made-now next held first last before step (Err (refusal.Fault named)) due makes = absurd makes
made-now next held first last before step (Err (refusal.TooLong named)) due makes = absurd makes
made-now next held first last before step (Err refusal.Output) due makes = absurd makes
made-now next held first last before step (Err refusal.Usage) due makes =
    comes-now next held before (Refuses refusal.Usage) (subst (λ s. next before s) makes due)
made-now next held first last before step (Err (refusal.Scenario fault)) due makes =
    comes-now next held before (Refuses (refusal.Scenario fault)) (subst (λ s. next before s) makes due)
made-now next held first last before step (Err (refusal.Script fault number)) due makes =
    comes-now next held before (Refuses (refusal.Script fault number)) (subst (λ s. next before s) makes due)
made-now next held first last before step (Err (refusal.Words fault number)) due makes =
    comes-now next held before (Refuses (refusal.Words fault number)) (subst (λ s. next before s) makes due)
made-now next held first last before step (Err (refusal.History fault number)) due makes =
    comes-now next held before (Refuses (refusal.History fault number)) (subst (λ s. next before s) makes due)
made-now next held first last before step (Err refusal.NotVerified) due makes =
    comes-now next held before (Refuses refusal.NotVerified) (subst (λ s. next before s) makes due)
made-now next held first last before step (Err (refusal.NoAnswer lack)) due makes =
    comes-now next held before (Refuses (refusal.NoAnswer lack)) (subst (λ s. next before s) makes due)
made-now next held first last before step (Err (refusal.Pieces at)) due makes =
    comes-now next held before (Refuses (refusal.Pieces at)) (subst (λ s. next before s) makes due)
made-now next held first last before step (Err (refusal.Keep kept_name kept_fault)) due makes =
    comes-now next held before (Refuses (refusal.Keep kept_name kept_fault)) (subst (λ s. next before s) makes due)
