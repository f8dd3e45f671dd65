-- The keys of a station whose scenario has no seed: the ring of all public keys, and the own key. (This project's own.)
use Rattle.std.specs.Prelude.{◌≡◌, ◌⊎◌, ℕ, List, Option, None, Some, Result, Ok, Err}
use Rattle.scenario_file.specs.Reading.{Contents, cast_of}
use Rattle.scenario_file.specs.declared.held.HeldKeys.{HeldKeys}
use Rattle.command_files.specs.Keys.{IsBadLine, IsNoOwnKey, IsRing, own_line}
use Rattle.command_files.specs.declared.own_key.OwnKey.{OwnKey}
use Rattle.station_commands.specs.declared.refusal.StationFault.TheVariants as fault
use Rattle.station_commands.specs.declared.refusal.StationRefusal.{StationRefusal}
use Rattle.station_commands.specs.declared.refusal.StationRefusal.TheVariants as refusal
use Rattle.station_commands.specs.Opening.{IsLoaded, NotLoaded}

-- ---- Each file.

-- the public keys of the ring that a file holds, whose lines are those of this scenario's actors
abbrev pub IsRingOf : Contents → Option (List ℕ) → List (List ℕ) → Type 0
IsRingOf c held publics =
    (content : List ℕ) × IsLoaded held content × IsRing (cast_of c.settings c.plant) content publics

-- why there is none, by the file's counts of faults before and after
abbrev pub NoRing : Contents → Option (List ℕ) → ℕ → ℕ → List ℕ → StationRefusal → Type 0
NoRing c held before after name (refusal.Own (fault.BadRing line)) =
    (content : List ℕ) × IsLoaded held content × IsBadLine (cast_of c.settings c.plant) content line
NoRing c held before after name (refusal.Known why) = NotLoaded held before after name why
NoRing c held before after name other = ⊥

abbrev pub RingCause : Contents → Option (List ℕ) → ℕ → ℕ → List ℕ → Result (List (List ℕ)) StationRefusal → Type 0
RingCause c held before after name (Ok publics) = IsRingOf c held publics
RingCause c held before after name (Err why) = NoRing c held before after name why

-- the file holds the line of the own key of this actor's name
abbrev pub IsOwnKeyOf : List ℕ → Option (List ℕ) → List ℕ → List ℕ → Type 0
IsOwnKeyOf actor held seed identifier =
    (content : List ℕ) × IsLoaded held content × (content ≡ own_line actor seed identifier)

-- why it doesn't
abbrev pub NoOwnKey : List ℕ → Option (List ℕ) → ℕ → ℕ → List ℕ → StationRefusal → Type 0
NoOwnKey actor held before after name (refusal.Own (fault.BadKey line)) =
    (content : List ℕ) × IsLoaded held content × (line ≡ 1) × IsNoOwnKey actor content
NoOwnKey actor held before after name (refusal.Known why) = NotLoaded held before after name why
NoOwnKey actor held before after name other = ⊥

abbrev pub OwnKeyCause : List ℕ → Option (List ℕ) → ℕ → ℕ → List ℕ → Result OwnKey StationRefusal → Type 0
OwnKeyCause actor held before after name (Ok key) = IsOwnKeyOf actor held key.seed key.identifier
OwnKeyCause actor held before after name (Err why) = NoOwnKey actor held before after name why

-- ---- Both.

-- What is held by the actor of this name, by what the files of its words hold: nothing where they name no files of keys, else
-- the ring and the own key of the two that they name.
abbrev pub Holds : Contents → List ℕ → (List ℕ → Option (List ℕ)) → Option (List ℕ × List ℕ) → Option HeldKeys → Type 0
Holds c actor held None keys = keys ≡ None
Holds c actor held (Some files) None = ⊥
Holds c actor held (Some files) (Some keys) =
    IsRingOf c (held files.0) keys.ring × IsOwnKeyOf actor (held files.1) keys.seed keys.identifier

-- why the files of these words give no keys: for the ring's file, or else for the own key's
abbrev pub HoldsNone : Contents → List ℕ → (List ℕ → Option (List ℕ)) → (List ℕ → ℕ) → (List ℕ → ℕ) → StationRefusal
    → Option (List ℕ × List ℕ) → Type 0
HoldsNone c actor held before after why None = ⊥
HoldsNone c actor held before after why (Some files) =
    NoRing c (held files.0) (before files.0) (after files.0) files.0 why
    ⊎ NoOwnKey actor (held files.1) (before files.1) (after files.1) files.1 why

abbrev pub HoldingCause : Contents → List ℕ → (List ℕ → Option (List ℕ)) → (List ℕ → ℕ) → (List ℕ → ℕ)
    → Option (List ℕ × List ℕ) → Result (Option HeldKeys) StationRefusal → Type 0
HoldingCause c actor held before after files (Ok keys) = Holds c actor held files keys
HoldingCause c actor held before after files (Err why) = HoldsNone c actor held before after why files

-- keys that are held, as what is held
abbrev pub both_held : Result HeldKeys StationRefusal → Result (Option HeldKeys) StationRefusal
both_held (Ok keys) = Ok (Some keys)
both_held (Err why) = Err why
