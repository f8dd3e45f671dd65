-- Why a life ended so: at the opening of its file, at its beginning, or as it lived.
use Rattle.std.proofs.Common.{◌≡◌, ℕ, List, Option, Result, Err, IfSome, refl, subst}
use Rattle.outside.specs.Faults.{HasRisen}
use Rattle.outside.specs.declared.files.LoadAnswer.TheVariants as load
use Rattle.scenario_file.specs.Reading.{Contents}
use Rattle.kept_lines.specs.declared.refusal.KeptRefusal.TheVariants as kept
use Rattle.station_files.specs.Held.{Held}
use Rattle.stations.specs.declared.beginning.BeginRefusal.{BeginRefusal}
use Rattle.stations.specs.declared.beginning.BeginRefusal.TheVariants as begin
use Rattle.stations.specs.declared.living.TheConstants.{MOST_LINE as most_line}
use Rattle.stations.specs.declared.living.Halt.{Halt}
use Rattle.stations.specs.declared.living.Halt.TheVariants as halt
use Rattle.stations.specs.Beginning.{BeginsWith, IsHeldWhole, TellsKey}
use Rattle.world_rules.specs.Scenarios.{HasKey}
use Rattle.stations.specs.Station.{list_of}
use Rattle.stations.specs.declared.station.Station.{Station}
use Rattle.printed_history.specs.Reading.{contents_in}
use Rattle.stations.specs.Going.{IsFull, origin}
use Rattle.command_ends.specs.declared.refusal.Refusal.TheVariants as ends
use Rattle.station_commands.specs.declared.refusal.StationFault.TheVariants as fault
use Rattle.station_commands.specs.declared.refusal.StationRefusal.{StationRefusal}
use Rattle.station_commands.specs.declared.refusal.StationRefusal.TheVariants as refusal
use Rattle.station_commands.specs.Lives.{LifeCause, Lived, NotBegun, OpenCause, PutsNothing}
use Rattle.station_commands.specs.Lives.{Reach, AreEntriesOf, HasBegun, begin_refusal, halt_refusal}
use Rattle.station_commands.specs.Lives.NothingOrLived.{nothing, lived}

-- that the key is another one is told where it is
pub other_key : (c : Contents) (actor : ℕ) (e : BeginRefusal) → e ≡ begin.OtherKey
    → (let result : Result Station BeginRefusal = Err e in TellsKey c actor result) → HasKey c actor → ⊥
other_key c actor begin.OtherKey same tells has = tells has
other_key c actor (begin.NotLoaded why) same tells has = cc
other_key c actor (begin.NotRead why) same tells has = cc
other_key c actor begin.Want same tells has = cc

-- a station that `stations` refuses to begin
pub not_begun : (c : Contents) (actor : ℕ) (held : Option Held) (before after : ℕ) (name : List ℕ) (e : BeginRefusal)
    → IfSome held (λ it. BeginsWith c actor it.bytes (Err e))
    → (e ≡ begin.NotLoaded load.Failed → HasRisen before after) → (e ≡ begin.OtherKey → HasKey c actor → ⊥)
    → NotBegun c actor held before after name (begin_refusal e name)
not_begun c actor held before after name (begin.NotLoaded load.Failed) is failed other = (refl, failed refl)
not_begun c actor held before after name (begin.NotLoaded load.TooLong) is failed other = (refl, is)
not_begun c actor held before after name (begin.NotLoaded load.Want) is failed other = tt
not_begun c actor held before after name (begin.NotRead (kept.BadLine line)) is failed other = is
not_begun c actor held before after name (begin.NotRead (kept.NotLegal stamp)) is failed other = is
not_begun c actor held before after name (begin.NotRead (kept.OtherWords stamp)) is failed other = is
not_begun c actor held before after name (begin.NotRead kept.Want) is failed other = tt
not_begun c actor held before after name begin.Want is failed other = tt
not_begun c actor held before after name begin.OtherKey is failed other = other refl

-- the file wasn't opened
pub ends_unopened : (c : Contents) (actor : ℕ) (name : List ℕ) (reach : Reach) (e : StationRefusal) → PutsNothing reach
    → (let result : Result (List ℕ) StationRefusal = Err e in
    OpenCause reach.keep_faults_before reach.keep_faults_after name result)
    → LifeCause c actor name reach (Err e)
ends_unopened c actor name reach (refusal.Known (ends.Fault named)) none cause = (none, cause.0, cause.1)
ends_unopened c actor name reach (refusal.Known ends.Memory) none cause = nothing none
ends_unopened c actor name reach (refusal.Known ends.Usage) none cause = absurd cause
ends_unopened c actor name reach (refusal.Known (ends.TooLong named)) none cause = absurd cause
ends_unopened c actor name reach (refusal.Known (ends.Scenario why)) none cause = absurd cause
ends_unopened c actor name reach (refusal.Known (ends.Script why line)) none cause = absurd cause
ends_unopened c actor name reach (refusal.Known (ends.Words why line)) none cause = absurd cause
ends_unopened c actor name reach (refusal.Known (ends.History why number)) none cause = absurd cause
ends_unopened c actor name reach (refusal.Known (ends.Pieces line)) none cause = absurd cause
ends_unopened c actor name reach (refusal.Known (ends.Keep named why)) none cause = absurd cause
ends_unopened c actor name reach (refusal.Known ends.NotVerified) none cause = absurd cause
ends_unopened c actor name reach (refusal.Known (ends.NoAnswer why)) none cause = absurd cause
ends_unopened c actor name reach (refusal.Known ends.Output) none cause = absurd cause
ends_unopened c actor name reach (refusal.Own fault.InUse) none cause = none
ends_unopened c actor name reach (refusal.Own (fault.NotKept why)) none cause = absurd cause
ends_unopened c actor name reach (refusal.Own (fault.BadRing line)) none cause = absurd cause
ends_unopened c actor name reach (refusal.Own (fault.BadKey line)) none cause = absurd cause
ends_unopened c actor name reach (refusal.Own fault.OtherKey) none cause = absurd cause
ends_unopened c actor name reach (refusal.Own fault.Input) none cause = absurd cause
ends_unopened c actor name reach (refusal.Own fault.Keep) none cause = absurd cause
ends_unopened c actor name reach (refusal.Own fault.Full) none cause = absurd cause

unbegun : (c : Contents) (actor : ℕ) (name : List ℕ) (reach : Reach) (e : StationRefusal) → PutsNothing reach
    → NotBegun c actor (reach.lies name) reach.keep_faults_before reach.keep_faults_after name e
    → LifeCause c actor name reach (Err e)
unbegun c actor name reach (refusal.Known (ends.Fault named)) none cause = (none, cause.0, cause.1)
unbegun c actor name reach (refusal.Known (ends.TooLong named)) none cause = (none, cause.0, cause.1)
unbegun c actor name reach (refusal.Known ends.Memory) none cause = nothing none
unbegun c actor name reach (refusal.Known ends.Usage) none cause = absurd cause
unbegun c actor name reach (refusal.Known (ends.Scenario why)) none cause = absurd cause
unbegun c actor name reach (refusal.Known (ends.Script why line)) none cause = absurd cause
unbegun c actor name reach (refusal.Known (ends.Words why line)) none cause = absurd cause
unbegun c actor name reach (refusal.Known (ends.History why number)) none cause = absurd cause
unbegun c actor name reach (refusal.Known (ends.Pieces line)) none cause = absurd cause
unbegun c actor name reach (refusal.Known (ends.Keep named why)) none cause = absurd cause
unbegun c actor name reach (refusal.Known ends.NotVerified) none cause = absurd cause
unbegun c actor name reach (refusal.Known (ends.NoAnswer why)) none cause = absurd cause
unbegun c actor name reach (refusal.Known ends.Output) none cause = absurd cause
unbegun c actor name reach (refusal.Own (fault.NotKept why)) none cause = (none, cause)
unbegun c actor name reach (refusal.Own fault.OtherKey) none cause = (none, cause)
unbegun c actor name reach (refusal.Own (fault.BadRing line)) none cause = absurd cause
unbegun c actor name reach (refusal.Own (fault.BadKey line)) none cause = absurd cause
unbegun c actor name reach (refusal.Own fault.InUse) none cause = absurd cause
unbegun c actor name reach (refusal.Own fault.Input) none cause = absurd cause
unbegun c actor name reach (refusal.Own fault.Keep) none cause = absurd cause
unbegun c actor name reach (refusal.Own fault.Full) none cause = absurd cause

-- the station didn't begin with the file that was opened
pub ends_unbegun : (c : Contents) (actor : ℕ) (name named : List ℕ) (reach : Reach) (held : Option Held) (before : ℕ)
    (e : StationRefusal) → PutsNothing reach → held ≡ reach.lies name → before ≡ reach.keep_faults_before →
    named ≡ name → NotBegun c actor held before reach.keep_faults_after named e → LifeCause c actor name reach (Err e)
ends_unbegun c actor name named reach held before e none opened counted same cause =
    unbegun c actor name reach e none
    (subst (λ (n : List ℕ). NotBegun c actor (reach.lies name) reach.keep_faults_before reach.keep_faults_after n e) same
    (subst (λ (b : ℕ). NotBegun c actor (reach.lies name) b reach.keep_faults_after named e) counted
    (subst (λ (h : Option Held). NotBegun c actor h before reach.keep_faults_after named e) opened cause)))

-- the station that begins with the file that was opened
pub begun_so : (c : Contents) (actor : ℕ) (name : List ℕ) (reach : Reach) (s : Station) (opened begun : Option Held)
    → contents_in s.so_far ≡ c → s.actor ≡ actor → opened ≡ reach.lies name → AreEntriesOf c actor opened (list_of s)
    → IsHeldWhole (contents_in s.so_far) (list_of s) begun
    → HasBegun c actor name reach (origin s begun reach.put_before)
begun_so c actor name reach s opened begun contents is from entries durable = record {
  contents = contents;
  actor_is = is;
  entries = subst (λ (h : Option Held). AreEntriesOf c actor h (list_of s)) from entries;
  durable = durable;
  behind = refl;
}

-- a life that stopped before its input ended
pub ends_halted : (c : Contents) (actor : ℕ) (name : List ℕ) (reach : Reach) (before : ℕ) (h : Halt)
    (life : Lived c actor name reach) → before ≡ reach.keep_faults_before
    → (h ≡ halt.Input → HasRisen reach.line_faults_before reach.line_faults_after)
    → (h ≡ halt.Keep → HasRisen before reach.keep_faults_after)
    → (h ≡ halt.Output → HasRisen reach.out_faults_before reach.out_faults_after)
    → (h ≡ halt.Full → IsFull life.from most_line reach.waiting) → LifeCause c actor name reach (Err (halt_refusal h))
ends_halted c actor name reach before halt.Input life counted input keep output full = (life, input refl)
ends_halted c actor name reach before halt.Keep life counted input keep output full =
    (life, subst (λ (b : ℕ). HasRisen b reach.keep_faults_after) counted (keep refl))
ends_halted c actor name reach before halt.Output life counted input keep output full = (life, output refl)
ends_halted c actor name reach before halt.Full life counted input keep output full =
    record { from = life.from; begun = life.begun; lived = life.lived; full = full refl }
ends_halted c actor name reach before halt.Want life counted input keep output full = lived life
