-- What a scenario's file gives, from what was loaded and read of it.
use Rattle.std.proofs.Common.{◌≡◌, ℕ, List, Option, Result, Ok, Err, subst}
use Rattle.std.specs.declared.vec.Vec.{Vec}
use Rattle.std.specs.declared.alloc.Global.{Global}
use Rattle.scenario_file.specs.Reading.{contents}
use Rattle.scenario_file.specs.declared.scenario.Scenario.{Scenario}
use Rattle.command_ends.specs.declared.limits.TheConstants.{MOST_BYTES}
use Rattle.command_ends.specs.Loaded.{LoadCause}
use Rattle.command_ends.specs.declared.refusal.Refusal.{Refusal}
use Rattle.command_ends.specs.declared.refusal.Refusal.TheVariants as refusal
use Rattle.command_files.specs.Scenarios.{HasFault, ReadCause}
use Rattle.station_commands.specs.Opening.{NoScenario, NotLoaded, ScenarioCause, read_by}

-- what was read of a file that was loaded
pub read_of : (keys : Option (List ℕ × List ℕ)) (held : Option (List ℕ)) (before after : ℕ) (name : List ℕ)
    (loaded : Vec ℕ Global) (read : List ℕ) (result : Result Scenario Refusal)
    → LoadCause MOST_BYTES held before after name (Ok loaded) → read ≡ loaded.items →
    ReadCause (read_by keys read) result → ScenarioCause keys held before after name result
read_of keys held before after name loaded read (Ok found) cause same is =
    (loaded.items, cause, subst (λ (bytes : List ℕ). read_by keys bytes ≡ Ok (contents found)) same is)
read_of keys held before after name loaded read (Err refusal.Memory) cause same is = tt
read_of keys held before after name loaded read (Err (refusal.Scenario why)) cause same is = (
  loaded.items,
  cause,
  subst (λ (bytes : List ℕ). HasFault (read_by keys bytes) (refusal.Scenario why)) same is,
)
read_of keys held before after name loaded read (Err refusal.Usage) cause same is = absurd is
read_of keys held before after name loaded read (Err (refusal.Fault named)) cause same is = absurd is
read_of keys held before after name loaded read (Err (refusal.TooLong named)) cause same is = absurd is
read_of keys held before after name loaded read (Err (refusal.Script why line)) cause same is = absurd is
read_of keys held before after name loaded read (Err (refusal.Words why line)) cause same is = absurd is
read_of keys held before after name loaded read (Err (refusal.History why number)) cause same is = absurd is
read_of keys held before after name loaded read (Err (refusal.Pieces line)) cause same is = absurd is
read_of keys held before after name loaded read (Err (refusal.Keep named why)) cause same is = absurd is
read_of keys held before after name loaded read (Err refusal.NotVerified) cause same is = absurd is
read_of keys held before after name loaded read (Err (refusal.NoAnswer why)) cause same is = absurd is
read_of keys held before after name loaded read (Err refusal.Output) cause same is = absurd is

-- a file that wasn't loaded
pub unloaded : (held : Option (List ℕ)) (before after : ℕ) (name : List ℕ) (why : Refusal) →
    LoadCause MOST_BYTES held before after name (Err why) → NotLoaded held before after name why
unloaded held before after name (refusal.Fault named) cause = cause
unloaded held before after name (refusal.TooLong named) cause = cause
unloaded held before after name refusal.Memory cause = tt
unloaded held before after name refusal.Usage cause = absurd cause
unloaded held before after name (refusal.Scenario why) cause = absurd cause
unloaded held before after name (refusal.Script why line) cause = absurd cause
unloaded held before after name (refusal.Words why line) cause = absurd cause
unloaded held before after name (refusal.History why number) cause = absurd cause
unloaded held before after name (refusal.Pieces line) cause = absurd cause
unloaded held before after name (refusal.Keep named why) cause = absurd cause
unloaded held before after name refusal.NotVerified cause = absurd cause
unloaded held before after name (refusal.NoAnswer why) cause = absurd cause
unloaded held before after name refusal.Output cause = absurd cause

-- nor read
pub unread : (keys : Option (List ℕ × List ℕ)) (held : Option (List ℕ)) (before after : ℕ) (name : List ℕ)
    (why : Refusal) → LoadCause MOST_BYTES held before after name (Err why) →
    NoScenario keys held before after name why
unread keys held before after name (refusal.Fault named) cause = cause
unread keys held before after name (refusal.TooLong named) cause = cause
unread keys held before after name refusal.Memory cause = tt
unread keys held before after name refusal.Usage cause = absurd cause
unread keys held before after name (refusal.Scenario why) cause = absurd cause
unread keys held before after name (refusal.Script why line) cause = absurd cause
unread keys held before after name (refusal.Words why line) cause = absurd cause
unread keys held before after name (refusal.History why number) cause = absurd cause
unread keys held before after name (refusal.Pieces line) cause = absurd cause
unread keys held before after name (refusal.Keep named why) cause = absurd cause
unread keys held before after name refusal.NotVerified cause = absurd cause
unread keys held before after name (refusal.NoAnswer why) cause = absurd cause
unread keys held before after name refusal.Output cause = absurd cause
