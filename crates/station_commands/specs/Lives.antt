-- The life of a station whose scenario and actor were found, and why it ended. (This project's own.)
use Rattle.std.specs.Prelude.{◌≡◌, ◌≤◌, ◌^◌, ℕ, List, Option, IfSome, Result, Ok, Err, length}
use Rattle.outside.specs.Faults.{HasRisen}
use Rattle.outside.specs.declared.files.LoadAnswer.TheVariants as load
use Rattle.scenario_file.specs.Reading.{Contents}
use Rattle.history_rules.specs.Events.{Entry}
use Rattle.world_rules.specs.Scenarios.{HasKey}
use Rattle.kept_lines.specs.Reading.{kept_in}
use Rattle.kept_lines.specs.declared.refusal.KeptRefusal.{KeptRefusal}
use Rattle.kept_lines.specs.declared.refusal.KeptRefusal.TheVariants as kept
use Rattle.station_files.specs.Held.{Held}
use Rattle.station_files.specs.WholeLines.{whole_lines}
use Rattle.stations.specs.declared.beginning.BeginRefusal.{BeginRefusal}
use Rattle.stations.specs.declared.beginning.BeginRefusal.TheVariants as begin
use Rattle.stations.specs.declared.living.TheConstants.{MOST_LINE as most_line}
use Rattle.stations.specs.declared.living.Halt.{Halt}
use Rattle.stations.specs.declared.living.Halt.TheVariants as halt
use Rattle.stations.specs.declared.station.Station.{Station}
use Rattle.stations.specs.Beginning.{IsHeldWhole}
use Rattle.stations.specs.Going.{Origin, HasAnsweredAll, HasLived, IsFull}
use Rattle.command_ends.specs.declared.refusal.KeepFault.{KeepFault}
use Rattle.command_ends.specs.declared.refusal.KeepFault.TheVariants as keep
use Rattle.command_ends.specs.declared.refusal.Refusal.TheVariants as ends
use Rattle.station_commands.specs.declared.refusal.StationFault.TheVariants as fault
use Rattle.station_commands.specs.declared.refusal.StationRefusal.{StationRefusal}
use Rattle.station_commands.specs.declared.refusal.StationRefusal.TheVariants as refusal

-- ---- What a station reaches.

-- What a station reaches outside itself: what the files hold before it that can be kept, and what the one that it keeps
-- holds at the end; the lines that wait; what was put out; and the counts of faults of the kept file, of the lines and of
-- the output, before and after.
pub record Reach : Type 0 where
  pub lies : List ℕ → Option Held
  pub kept : Option Held
  pub keep_faults_before : ℕ
  pub keep_faults_after : ℕ
  pub waiting : Option (List ℕ)
  pub line_faults_before : ℕ
  pub line_faults_after : ℕ
  pub put_before : Option (List ℕ)
  pub put_after : Option (List ℕ)
  pub out_faults_before : ℕ
  pub out_faults_after : ℕ

abbrev pub reach_of : (List ℕ → Option Held) → Option Held → ℕ → ℕ → Option (List ℕ) → ℕ → ℕ → Option (List ℕ)
    → Option (List ℕ) → ℕ → ℕ → Reach
reach_of lies kept keep_faults_before keep_faults_after waiting line_faults_before line_faults_after put_before put_after
    out_faults_before out_faults_after = record {
      lies = lies;
      kept = kept;
      keep_faults_before = keep_faults_before;
      keep_faults_after = keep_faults_after;
      waiting = waiting;
      line_faults_before = line_faults_before;
      line_faults_after = line_faults_after;
      put_before = put_before;
      put_after = put_after;
      out_faults_before = out_faults_before;
      out_faults_after = out_faults_after;
    }

abbrev pub PutsNothing : Reach → Type 0
PutsNothing reach = reach.put_after ≡ reach.put_before

-- ---- How it begins.

-- the file's whole lines tell these entries of the actor, where it tells what it holds
abbrev pub AreEntriesOf : Contents → ℕ → Option Held → List Entry → Type 0
AreEntriesOf c actor held list = IfSome held (λ it. kept_in c actor (whole_lines it.bytes) ≡ Ok list)

-- the first fault of what was read
abbrev pub IsFirstFault : KeepFault → Result (List Entry) KeptRefusal → Type 0
IsFirstFault (keep.BadLine line) read = read ≡ Err (kept.BadLine line)
IsFirstFault (keep.NotLegal stamp) read = read ≡ Err (kept.NotLegal stamp)
IsFirstFault (keep.OtherWords stamp) read = read ≡ Err (kept.OtherWords stamp)
IsFirstFault keep.Twice read = ⊥

-- Opening gives a copy of the name, and no fault came; or one came; or another process has the file. Want of memory alone
-- is free.
abbrev pub OpenCause : ℕ → ℕ → List ℕ → Result (List ℕ) StationRefusal → Type 0
OpenCause before after name (Ok named) = (named ≡ name) × (after ≡ before)
OpenCause before after name (Err (refusal.Known (ends.Fault named))) = (named ≡ name) × HasRisen before after
OpenCause before after name (Err (refusal.Known ends.Memory)) = Unit {0}
OpenCause before after name (Err (refusal.Own fault.InUse)) = Unit {0}
OpenCause before after name (Err other) = ⊥

-- Why a station doesn't begin with the file of this name that was opened. Want of memory alone is free.
abbrev pub NotBegun : Contents → ℕ → Option Held → ℕ → ℕ → List ℕ → StationRefusal → Type 0
NotBegun c actor held before after name (refusal.Known (ends.Fault named)) = (named ≡ name) × HasRisen before after
NotBegun c actor held before after name (refusal.Known (ends.TooLong named)) =
    (named ≡ name) × IfSome held (λ it. 2 ^ 32 ≤ length it.bytes)
NotBegun c actor held before after name (refusal.Own (fault.NotKept why)) =
    IfSome held (λ it. IsFirstFault why (kept_in c actor (whole_lines it.bytes)))
NotBegun c actor held before after name (refusal.Own fault.OtherKey) = HasKey c actor → ⊥
NotBegun c actor held before after name (refusal.Known ends.Memory) = Unit {0}
NotBegun c actor held before after name other = ⊥

abbrev pub BeginCause : Contents → ℕ → Option Held → ℕ → ℕ → List ℕ → Result Station StationRefusal → Type 0
BeginCause c actor held before after name (Ok station) = after ≡ before
BeginCause c actor held before after name (Err why) = NotBegun c actor held before after name why

abbrev pub begin_refusal : BeginRefusal → List ℕ → StationRefusal
begin_refusal (begin.NotLoaded load.Failed) name = refusal.Known (ends.Fault name)
begin_refusal (begin.NotLoaded load.TooLong) name = refusal.Known (ends.TooLong name)
begin_refusal (begin.NotLoaded load.Want) name = refusal.Known ends.Memory
begin_refusal (begin.NotRead (kept.BadLine line)) name = refusal.Own (fault.NotKept (keep.BadLine line))
begin_refusal (begin.NotRead (kept.NotLegal stamp)) name = refusal.Own (fault.NotKept (keep.NotLegal stamp))
begin_refusal (begin.NotRead (kept.OtherWords stamp)) name = refusal.Own (fault.NotKept (keep.OtherWords stamp))
begin_refusal (begin.NotRead kept.Want) name = refusal.Known ends.Memory
begin_refusal begin.OtherKey name = refusal.Own fault.OtherKey
begin_refusal begin.Want name = refusal.Known ends.Memory

-- ---- How it lives.

abbrev pub halt_refusal : Halt → StationRefusal
halt_refusal halt.Input = refusal.Own fault.Input
halt_refusal halt.Keep = refusal.Own fault.Keep
halt_refusal halt.Full = refusal.Own fault.Full
halt_refusal halt.Output = refusal.Known ends.Output
halt_refusal halt.Want = refusal.Known ends.Memory

-- This actor of this scenario begins with the entries that the file of this name told, which is durable then, and behind
-- what was put out before.
pub record HasBegun (c : Contents) (actor : ℕ) (name : List ℕ) (reach : Reach) (o : Origin) : Type 0 where
  pub contents : o.contents ≡ c
  pub actor_is : o.actor ≡ actor
  pub entries : AreEntriesOf c actor (reach.lies name) o.list
  pub durable : IsHeldWhole o.contents o.list o.held
  pub behind : o.told ≡ reach.put_before

-- A life that began so and was lived, with whatever end: only what is kept was put out.
pub record Lived (c : Contents) (actor : ℕ) (name : List ℕ) (reach : Reach) : Type 0 where
  pub from : Origin
  pub begun : HasBegun c actor name reach from
  pub lived : HasLived from most_line reach.waiting reach.kept reach.put_after

-- the same until all that waited was answered, told and kept
pub record LivedToTheEnd (c : Contents) (actor : ℕ) (name : List ℕ) (reach : Reach) : Type 0 where
  pub from : Origin
  pub begun : HasBegun c actor name reach from
  pub lived : HasLived from most_line reach.waiting reach.kept reach.put_after
  pub answered : HasAnsweredAll from most_line reach.waiting reach.kept reach.put_after

-- the same until its file was full
pub record LivedUntilFull (c : Contents) (actor : ℕ) (name : List ℕ) (reach : Reach) : Type 0 where
  pub from : Origin
  pub begun : HasBegun c actor name reach from
  pub lived : HasLived from most_line reach.waiting reach.kept reach.put_after
  pub full : IsFull from most_line reach.waiting

pub data NothingOrLived (c : Contents) (actor : ℕ) (name : List ℕ) (reach : Reach) : Type 0 where
  nothing : PutsNothing reach → NothingOrLived c actor name reach
  lived : Lived c actor name reach → NothingOrLived c actor name reach

-- Why the life of this actor of this scenario, kept in the file of this name, ended so: before it began nothing was put
-- out, and from then on only what is kept.
abbrev pub LifeCause : Contents → ℕ → List ℕ → Reach → Result (Unit {0}) StationRefusal → Type 0
LifeCause c actor name reach (Ok _) = LivedToTheEnd c actor name reach
LifeCause c actor name reach (Err (refusal.Known (ends.Fault named))) =
    PutsNothing reach × (named ≡ name) × HasRisen reach.keep_faults_before reach.keep_faults_after
LifeCause c actor name reach (Err (refusal.Known (ends.TooLong named))) =
    PutsNothing reach × (named ≡ name) × IfSome (reach.lies name) (λ it. 2 ^ 32 ≤ length it.bytes)
LifeCause c actor name reach (Err (refusal.Own fault.InUse)) = PutsNothing reach
LifeCause c actor name reach (Err (refusal.Own (fault.NotKept why))) = PutsNothing reach
    × IfSome (reach.lies name) (λ it. IsFirstFault why (kept_in c actor (whole_lines it.bytes)))
LifeCause c actor name reach (Err (refusal.Own fault.OtherKey)) = PutsNothing reach × (HasKey c actor → ⊥)
LifeCause c actor name reach (Err (refusal.Own fault.Input)) =
    Lived c actor name reach × HasRisen reach.line_faults_before reach.line_faults_after
LifeCause c actor name reach (Err (refusal.Own fault.Keep)) =
    Lived c actor name reach × HasRisen reach.keep_faults_before reach.keep_faults_after
LifeCause c actor name reach (Err (refusal.Known ends.Output)) =
    Lived c actor name reach × HasRisen reach.out_faults_before reach.out_faults_after
LifeCause c actor name reach (Err (refusal.Own fault.Full)) = LivedUntilFull c actor name reach
LifeCause c actor name reach (Err (refusal.Known ends.Memory)) = NothingOrLived c actor name reach
LifeCause c actor name reach (Err other) = ⊥
