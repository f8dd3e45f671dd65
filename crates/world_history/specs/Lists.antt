-- Lists of entries as a keeper has them, and what an actor is that is made anew from them. (This project's own.)
use Rattle.std.specs.Prelude.{◌≡◌, ℕ, ◌-◌, ◌^◌, ◌<◌, ◌≤◌, false, List, [], map, take, length, slice_get, Option, Some}
use Rattle.std.specs.Prelude.{None}
use Rattle.message_types.specs.declared.signed.Signed.{Signed}
use Rattle.message_types.specs.declared.body.Body.{Body}
use Rattle.scenario_file.specs.Reading.{Contents}
use Rattle.history_rules.specs.Events.{Entry}
use Rattle.history_rules.specs.Setup.{Setup}
use Rattle.history_rules.specs.Legal.{Stands}
use Rattle.world_rules.specs.Scenarios.{setup_of}
use Rattle.history_laws.specs.BenchLists.{AddsEntry, IsBenchList}
use Rattle.bench_rules.specs.Lists.{frames_after}
use Rattle.entry_texts.specs.Texts.{kept_text}
use Rattle.entry_texts.specs.Fits.{FitsEntry}
use Rattle.world_history.specs.State.{BenchState, setup_in}

-- the last entry of a list
abbrev pub last_of : List Entry → Option Entry
last_of list = slice_get list (length list - 1)

-- the entries before it
abbrev pub before_last : List Entry → List Entry
before_last list = take (length list - 1) list

-- the bytes that are kept of each entry
abbrev pub texts_of : List Entry → List (List ℕ)
texts_of list = map kept_text list

-- the numbers of each entry are within their fields
abbrev pub EachFits : List Entry → Type 0
EachFits list = (before : List Entry) (e : Entry) → Stands list before e → FitsEntry e.stamp e.event

-- A list that a bench of this actor can have and whose entries can be written.
pub record IsKeptList (c : Contents) (actor : ℕ) (list : List Entry) : Type 0 where
  pub entries : IsBenchList (setup_of c) actor list
  pub fits : EachFits list
  pub short : length list ≤ 2 ^ 32

-- These are the bytes of such a list.
pub record AreKept (c : Contents) (actor : ℕ) (kept : List (List ℕ)) : Type 0 where
  pub list : List Entry
  pub can : IsKeptList c actor list
  pub are : kept ≡ texts_of list

-- A keeper that tells its entries has such a list.
pub record TellsList (c : Contents) (actor : ℕ) (told : Option (List (List ℕ))) : Type 0 where
  pub list : List Entry
  pub can : IsKeptList c actor list
  pub as_texts : told ≡ Some (texts_of list)

-- The bytes are what is kept of an entry that the actor could add next.
pub record ComesNext (b : BenchState) (bytes : List ℕ) : Type 0 where
  pub entry : Entry
  pub fits : FitsEntry entry.stamp entry.event
  pub adds : AddsEntry (setup_in b) b.actor b.list entry
  pub short : length b.list < 2 ^ 32
  pub are : bytes ≡ kept_text entry

-- an actor that did what the list says, and nothing else
abbrev pub replayed : Contents → ℕ → List Entry → BenchState
replayed c actor list = record { world = c; actor = actor; list = list; signed = 0; is_spent = false }

-- the frames of a list's last entry; where there is no entry there are none
abbrev pub frames_at : Setup → ℕ → List Entry → Option Entry → List (Signed Body)
frames_at w actor before None = []
frames_at w actor before (Some e) = frames_after w actor before e

unfoldable pub frames_of_last : Setup → ℕ → List Entry → List (Signed Body)
frames_of_last w actor list = frames_at w actor (before_last list) (last_of list)
