-- The laws that join histories to the actors' own lists, as statements over every setup, whoever is intruded.
use Rattle.std.specs.Prelude.{◌≡◌, ℕ, ◌+◌, ◌<◌, true, false, List, [], ◌∷◌, ◌++◌, Some, length, slice_get}
use Rattle.history_rules.specs.Events.{Event, Entry}
use Rattle.history_rules.specs.Setup.{Setup, own}
use Rattle.history_rules.specs.Keeping.{is_halted}
use Rattle.history_rules.specs.Legal.{IsLegalEntry, IsLegal, Stands, says_in}
use Rattle.history_rules.specs.Counts.{merged}
use Rattle.history_laws.specs.Own.{IsOwnEntry, IsOwnHistory, AreOwnHistories, HasEachStampOnce}
use Rattle.history_laws.specs.BenchLists.{AddsEntry, IsBenchList}

-- Of a legal history each actor's own entries are an own history of that actor.
abbrev pub OwnOfLegal : Type 0
OwnOfLegal = (w : Setup) (history : List Entry) (actor : ℕ) → IsLegal w history →
    IsOwnHistory w actor (own history actor)

-- Own histories of all actors, with each stamp once, merge to a legal history ..
abbrev pub MergedIsLegal : Type 0
MergedIsLegal = (w : Setup) (lists : List (List Entry)) → AreOwnHistories w lists → HasEachStampOnce lists →
    IsLegal w (merged lists)

-- .. and they are the actors' own entries of it.
abbrev pub MergedHasOwnLists : Type 0
MergedHasOwnLists =
    (w : Setup) (lists : List (List Entry)) → AreOwnHistories w lists → HasEachStampOnce lists
    → (actor : ℕ) (list : List Entry) → slice_get lists actor ≡ Some list → own (merged lists) actor ≡ list

-- The history of no entries is legal, and a legal one with one more entry that may come after it.
abbrev pub NoneIsLegal : Type 0
NoneIsLegal = (w : Setup) → IsLegal w []

abbrev pub OneMoreIsLegal : Type 0
OneMoreIsLegal = (w : Setup) (history : List Entry) (e : Entry) → IsLegal w history → IsLegalEntry w history e →
    IsLegal w (history ++ e ∷ [])

-- The list of no entries is each actor's own history, and so is an own history with one more entry of the actor's own.
abbrev pub NoneIsOwn : Type 0
NoneIsOwn = (w : Setup) (actor : ℕ) → IsOwnHistory w actor []

abbrev pub OneMoreIsOwn : Type 0
OneMoreIsOwn =
    (w : Setup) (actor : ℕ) (list : List Entry) (e : Entry) → IsOwnHistory w actor list → IsOwnEntry w actor list e →
    IsOwnHistory w actor (list ++ e ∷ [])

-- What an actor that is there can add to its own entries of a history may come after that history, with its length as
-- stamp.
abbrev pub OwnEntryIsLegal : Type 0
OwnEntryIsLegal =
    (w : Setup) (history : List Entry) (actor : ℕ) (e : Entry) → actor < w.group.n + w.group.clients →
    e.stamp ≡ length history
    → IsOwnEntry w actor (own history actor) e → IsLegalEntry w history e

-- The list of no entries is a bench's, and so is one with one more entry that the actor could add.
abbrev pub NoneIsBenchList : Type 0
NoneIsBenchList = (w : Setup) (actor : ℕ) → IsBenchList w actor []

abbrev pub OneMoreIsBenchList : Type 0
OneMoreIsBenchList =
    (w : Setup) (actor : ℕ) (list : List Entry) (e : Entry) → IsBenchList w actor list → AddsEntry w actor list e →
    IsBenchList w actor (list ++ e ∷ [])

-- A bench's list is an own history exactly where the actor wasn't halted before any of its entries.
abbrev pub OwnHistoryIsBenchList : Type 0
OwnHistoryIsBenchList = (w : Setup) (actor : ℕ) (list : List Entry) → IsOwnHistory w actor list →
    IsBenchList w actor list

abbrev pub UnhaltedIsOwnHistory : Type 0
UnhaltedIsOwnHistory =
    (w : Setup) (actor : ℕ) (list : List Entry) → IsBenchList w actor list
    → ((before : List Entry) (e : Entry) → Stands list before e → is_halted w actor before ≡ false) →
    IsOwnHistory w actor list

-- An intruded master says nothing by itself.
abbrev pub IntrudedSayNothing : Type 0
IntrudedSayNothing =
    (w : Setup) (actor : ℕ) (list : List Entry) (event : Event) → actor < w.group.n → w.intruded actor ≡ true →
    says_in w actor list event ≡ []
