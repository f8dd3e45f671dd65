-- What a call comes to where nothing is in its way.
use Rattle.std.specs.Prelude.{◌≡◌, ◌⊎◌, ◌≤◌, ℕ, List, [], ◌∷◌, ◌++◌, Some, length}
use Rattle.outside.specs.Faults.{HasRisen}
use Rattle.outside.specs.Piece.{with_piece}
use Rattle.command_ends.specs.Refusals.{status_of}
use Rattle.command_ends.specs.Steps.{Step}
use Rattle.command_ends.specs.Steps.Step.{Load, Gives, Refuses}
use Rattle.command_ends.specs.Calls.{Call, PutsNothing}
use Rattle.command_ends.specs.Ended.{ErrorSink}

-- the same step, or another text
abbrev pub IsAlike : Step → Step → Type 0
IsAlike (Gives one) (Gives other) = Unit {0}
IsAlike one other = one ≡ other

-- Each file that is due tells what it holds, has no more bytes than it may have, and was loaded without a fault: these are
-- their contents.
abbrev pub Lies : (List (List ℕ) → Step → Type 0) → Call → List (List ℕ) → List (List ℕ) → Type 0
Lies next call before [] = Unit {0}
Lies next call before (content ∷ more) =
    (name : List ℕ) × (most : ℕ) × next before (Load name most) × (call.held name ≡ Some content)
    × (length content ≤ most) × (HasRisen (call.faults_before name) (call.faults_after name) → ⊥)
    × Lies next call (before ++ content ∷ []) more

-- The files that the words name are there, nothing failed in the call, and this is what comes of them.
pub record IsUntroubled (next : List (List ℕ) → List (List ℕ) → Step → Type 0) (call : Call)
    (last : Step) : Type 0 where
  pub contents : List (List ℕ)
  pub files : Lies (next call.words) call [] contents
  pub comes : next call.words contents last
  pub out : HasRisen call.out_faults_before call.out_faults_after → ⊥

-- the whole text was put and nothing told to the error output; or nothing was put, and the status is that of the
-- refusal
abbrev pub IsDue : Call → ErrorSink → ℕ → Step → Type 0
IsDue call err status (Load name most) = Unit {0}
IsDue call err status (Gives text) =
    (status ≡ 0) × (call.put_after ≡ with_piece call.put_before text) × (err.put_after ≡ err.put_before)
IsDue call err status (Refuses why) = (status ≡ status_of why) × PutsNothing call

pub data IsDueOrWant (call : Call) (err : ErrorSink) (status : ℕ) (last : Step) : Type 0 where
  due : IsDue call err status last → IsDueOrWant call err status last
  memory : status ≡ 7 → IsDueOrWant call err status last

-- Where nothing is in its way, a call ends with what its words and its files may come to, or for want of memory: with a
-- text where there is to be one, else with the refusal that is due. Where only one step may come, that is the end.
abbrev pub Completes : (List (List ℕ) → List (List ℕ) → Step → Type 0) → Call → ErrorSink → ℕ → Type 0
Completes next call err status =
    (last : Step) (free : IsUntroubled next call last) → (end : Step) × IsAlike last end
    × next call.words free.contents end × IsDueOrWant call err status end

-- Nothing is in the way of a call: the files that its words name tell what they hold, one by one as
-- they are due, none is too long, none failed, these are the contents of the first of them, and the output didn't fail.
pub record IsFree (next : List (List ℕ) → List (List ℕ) → Step → Type 0) (call : Call)
    (contents : List (List ℕ)) : Type 0 where
  pub files : Lies (next call.words) call [] contents
  pub out : HasRisen call.out_faults_before call.out_faults_after → ⊥

-- Where nothing is in its way, a call ends for want of memory, or with a step that may come of its words and files: that
-- there is such a step is no premise. (Where a file more is due than these, that one's loading comes, and nothing is said.)
abbrev pub EndsFreely : (List (List ℕ) → List (List ℕ) → Step → Type 0) → Call → ErrorSink → ℕ → Type 0
EndsFreely next call err status =
    (contents : List (List ℕ)) → IsFree next call contents → (status ≡ 7)
    ⊎ ((end : Step) × next call.words contents end × IsDue call err status end)
