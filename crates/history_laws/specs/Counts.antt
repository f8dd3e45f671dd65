-- The laws of an audit's counts, as statements over every setup and history.
use Rattle.std.specs.Prelude.{◌≡◌, ◌↔◌, ℕ, suc, ◌+◌, ◌<◌, ◌≤◌, true, List, [], ◌∷◌, Some, length, map, nat_lt}
use Rattle.std.specs.Prelude.{slice_get}
use Rattle.std.specs.List.{list_all, flat_map}
use Rattle.message_types.specs.declared.body.Body.{Body}
use Rattle.quorum_sets.specs.Masters.{numbers_below}
use Rattle.protocol_rules.specs.Group.{Group}
use Rattle.history_rules.specs.Events.{Entry}
use Rattle.history_rules.specs.Setup.{Setup, own}
use Rattle.history_rules.specs.Legal.{IsLegal}
use Rattle.history_rules.specs.Audit.{NothingForged, NoSharedDigest}
use Rattle.history_rules.specs.Sameness.{is_same_body}
use Rattle.history_rules.specs.Counts.{forged, alike, intruded_masters, merged}
use Rattle.agreement.specs.Laws.{HasSizes, IsSound}

-- Two bodies pass the test exactly where they are equal.
abbrev pub SameBodies : Type 0
SameBodies = (a b : Body) → (is_same_body a b ≡ true) ↔ (a ≡ b)

-- No word counts as forged exactly where what each taken frame bears in a correct actor's name that actor said before.
abbrev pub ForgedCounts : Type 0
ForgedCounts = (w : Setup) (history : List Entry) → (forged w history ≡ 0) ↔ NothingForged w history

-- No text counts as alike exactly where no two different texts of the history have one digest.
abbrev pub AlikeCounts : Type 0
AlikeCounts = (g : Group) (history : List Entry) → (alike g history ≡ 0) ↔ NoSharedDigest g history

-- A legal history of a group is sound where at most f masters count as intruded, no word as forged and no text as
-- alike.
abbrev pub SoundByCounts : Type 0
SoundByCounts =
    (w : Setup) (history : List Entry) → IsLegal w history → HasSizes w.group
    → intruded_masters w ≤ w.group.f → forged w history ≡ 0 → alike w.group history ≡ 0 → IsSound w history

-- The own lists of all actors of a legal history, merged by stamp, are the history.
abbrev pub MergedWhole : Type 0
MergedWhole =
    (w : Setup) (history : List Entry) → IsLegal w history
    → merged (map (own history) (numbers_below (w.group.n + w.group.clients))) ≡ history

-- an actor's entries, of rising stamps below a total
abbrev pub IsOwnList : ℕ → ℕ → List Entry → Type 0
IsOwnList total actor [] = Unit {0}
IsOwnList total actor (e ∷ rest) =
    (e.actor ≡ actor) × (e.stamp < total) × (list_all (λ later. nat_lt e.stamp later.stamp) rest ≡ true)
    × IsOwnList total actor rest

-- lists of entries, each of the actor whose number its place is, counted from `first`
abbrev pub AreOwnLists : ℕ → ℕ → List (List Entry) → Type 0
AreOwnLists total first [] = Unit {0}
AreOwnLists total first (entries ∷ rest) = IsOwnList total first entries × AreOwnLists total (suc first) rest

-- What is merged of actors' lists, of rising stamps below the number of all entries, has those lists as the actors'
-- own.
abbrev pub OwnOfMerged : Type 0
OwnOfMerged =
    (lists : List (List Entry)) → AreOwnLists (length (flat_map (λ entries. entries) lists)) 0 lists
    → (actor : ℕ) (entries : List Entry) → slice_get lists actor ≡ Some entries → own (merged lists) actor ≡ entries
