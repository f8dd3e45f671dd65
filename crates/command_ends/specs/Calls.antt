-- What a call of the program comes to: how it ended, why, and what then stands at its output.
use Rattle.std.specs.Prelude.{◌≡◌, ℕ, ◌≤◌, ◌<◌, List, [], ◌∷◌, ◌++◌, Option, None, Some, Result, Ok, Err, length}
use Rattle.std.specs.Prelude.{IfSome}
use Rattle.std.specs.declared.vec.Vec.{Vec}
use Rattle.std.specs.declared.alloc.Global.{Global}
use Rattle.outside.specs.Faults.{HasRisen}
use Rattle.outside.specs.Piece.{with_piece}
use Rattle.command_ends.specs.Output.{PutsBeginning}
use Rattle.command_ends.specs.Steps.{Step}
use Rattle.command_ends.specs.Steps.Step.{Load, Gives, Refuses}
use Rattle.command_ends.specs.declared.refusal.Refusal.{Refusal}
use Rattle.command_ends.specs.declared.refusal.Refusal.TheVariants as refusal

-- the words, and what the files and the output tell before and after the call
pub record Call : Type 0 where
  pub words : List (List ℕ)
  pub held : List ℕ → Option (List ℕ)
  pub faults_before : List ℕ → ℕ
  pub faults_after : List ℕ → ℕ
  pub out_faults_before : ℕ
  pub out_faults_after : ℕ
  pub put_before : Option (List ℕ)
  pub put_after : Option (List ℕ)

-- A call by its words, by what the files hold and count as faults before and after it, and by the output's count of
-- faults and what was put to it, each before and after.
abbrev pub call_of : List (List ℕ) → (List ℕ → Option (List ℕ)) → (List ℕ → ℕ) → (List ℕ → ℕ) → ℕ → ℕ →
    Option (List ℕ) → Option (List ℕ) → Call
call_of words held faults_before faults_after out_faults_before out_faults_after put_before put_after = record {
  words = words;
  held = held;
  faults_before = faults_before;
  faults_after = faults_after;
  out_faults_before = out_faults_before;
  out_faults_after = out_faults_after;
  put_before = put_before;
  put_after = put_after;
}

-- a content that is the file's, where the file tells what it holds
abbrev pub IsContent : Option (List ℕ) → List ℕ → Type 0
IsContent None content = Unit {0}
IsContent (Some held) content = content ≡ held

-- a file that has more bytes than it may have, where the file tells what it holds
abbrev pub IsTooLong : ℕ → Option (List ℕ) → Type 0
IsTooLong most held = IfSome held (λ content. most < length content)

-- After the contents loaded before, these more were loaded, one by one: each is the content of the file that was due
-- then, and has no more bytes than that may have. What is due is told by the contents loaded before it.
abbrev pub Loaded : (List (List ℕ) → Step → Type 0) → (List ℕ → Option (List ℕ)) →
    List (List ℕ) → List (List ℕ) → Type 0
Loaded next held before [] = Unit {0}
Loaded next held before (content ∷ more) =
    (name : List ℕ) × (most : ℕ) × next before (Load name most) × IsContent (held name) content × (length content ≤ most)
    × Loaded next held (before ++ content ∷ []) more

-- After the contents loaded before, these were loaded, and this step came next.
abbrev pub Comes : (List (List ℕ) → Step → Type 0) → (List ℕ → Option (List ℕ)) → List (List ℕ) → Step → Type 0
Comes next held before step = (more : List (List ℕ)) × Loaded next held before more × next (before ++ more) step

-- Why there is this text, or none, after the contents loaded before: a file that couldn't be loaded, or has more bytes than
-- it may have, was due. Want of memory alone is free.
abbrev pub TextCause : (List (List ℕ) → Step → Type 0) → (List ℕ → Option (List ℕ)) → (List ℕ → ℕ) → (List ℕ → ℕ)
    → List (List ℕ) → Result (Vec ℕ Global) Refusal → Type 0
TextCause next held faults_before faults_after before (Ok text) = Comes next held before (Gives text.items)
TextCause next held faults_before faults_after before (Err refusal.Memory) = Unit {0}
TextCause next held faults_before faults_after before (Err (refusal.Fault name)) =
    (most : ℕ) × Comes next held before (Load name most) × HasRisen (faults_before name) (faults_after name)
TextCause next held faults_before faults_after before (Err (refusal.TooLong name)) =
    (most : ℕ) × Comes next held before (Load name most) × IsTooLong most (held name)
TextCause next held faults_before faults_after before (Err refusal.Output) = ⊥
TextCause next held faults_before faults_after before (Err why) = Comes next held before (Refuses why)

-- how the output stands where nothing was put
abbrev pub PutsNothing : Call → Type 0
PutsNothing call = call.put_after ≡ call.put_before

-- Why a call ended so, where `next` tells what comes next for the words and the contents loaded. Want of memory alone
-- is free.
abbrev pub CauseOf : (List (List ℕ) → List (List ℕ) → Step → Type 0) → Call → Result (Unit {0}) Refusal → Type 0
CauseOf next call (Ok _) =
    (text : List ℕ) × Comes (next call.words) call.held [] (Gives text)
    × (call.put_after ≡ with_piece call.put_before text)
CauseOf next call (Err (refusal.Fault name)) =
    (most : ℕ) × Comes (next call.words) call.held [] (Load name most)
    × HasRisen (call.faults_before name) (call.faults_after name) × PutsNothing call
CauseOf next call (Err (refusal.TooLong name)) =
    (most : ℕ) × Comes (next call.words) call.held [] (Load name most) × IsTooLong most (call.held name)
    × PutsNothing call
CauseOf next call (Err refusal.Output) =
    (text : List ℕ) × Comes (next call.words) call.held [] (Gives text)
    × HasRisen call.out_faults_before call.out_faults_after × PutsBeginning call.put_before text call.put_after
CauseOf next call (Err refusal.Memory) = Unit {0}
CauseOf next call (Err why) = Comes (next call.words) call.held [] (Refuses why) × PutsNothing call

-- Nothing was put, or a beginning of the text that the call defines.
pub data NothingOrBegun (next : List (List ℕ) → List (List ℕ) → Step → Type 0) (call : Call) : Type 0 where
  nothing : PutsNothing call → NothingOrBegun next call
  begun : (text : List ℕ) → Comes (next call.words) call.held [] (Gives text) →
      PutsBeginning call.put_before text call.put_after
      → NothingOrBegun next call

-- what was put where memory was wanted
abbrev pub PutsInMemory : (List (List ℕ) → List (List ℕ) → Step → Type 0) → Call → Result (Unit {0}) Refusal → Type 0
PutsInMemory next call (Err refusal.Memory) = NothingOrBegun next call
PutsInMemory next call _ = Unit {0}

-- No file's count of faults rose.
abbrev pub CountsStay : (List ℕ → ℕ) → (List ℕ → ℕ) → Type 0
CountsStay before after = (name : List ℕ) → after name ≡ before name

-- What a refusal tells of the files' counts of faults, and of the output's: none rises but at a fault that is told.
abbrev pub FileCounts : Refusal → (List ℕ → ℕ) → (List ℕ → ℕ) → Type 0
FileCounts (refusal.Fault name) before after = Unit {0}
FileCounts _ before after = CountsStay before after

abbrev pub OutCounts : Refusal → ℕ → ℕ → Type 0
OutCounts refusal.Output before after = Unit {0}
OutCounts _ before after = after ≡ before

-- the same of every end of a call or of a part of it
abbrev pub FaultsOfFiles : {V : Type 0} → Result V Refusal → (List ℕ → ℕ) → (List ℕ → ℕ) → Type 0
FaultsOfFiles (Ok _) before after = CountsStay before after
FaultsOfFiles (Err refused) before after = FileCounts refused before after

abbrev pub FaultsOfOut : {V : Type 0} → Result V Refusal → ℕ → ℕ → Type 0
FaultsOfOut (Ok _) before after = after ≡ before
FaultsOfOut (Err refused) before after = OutCounts refused before after
