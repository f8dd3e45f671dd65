-- What an inbox and the knowledge of its passes keep, and what each step changes and tells. An item's place is how many
-- were posted to the inbox before it. (This project's own.)
use Rattle.std.specs.Prelude.{◌≡◌, ℕ, ◌+◌, ◌-◌, ◌^◌, ◌≤◌, Bool, true, false, List, [], ◌∷◌, ◌++◌, length, map, sum_by}
use Rattle.std.specs.Prelude.{slice_get, Some, nat_lt, if◌then◌else◌, ⊤}
use mathlib.Core.Option.{some}
use lib.ListN.{get_elem?}
use Rattle.stamps.specs.Seats.{times, once_below, IsEachOnce}
use Rattle.inboxes.specs.declared.rule.Known.{Known}

-- how many parts the right to know the whole inbox has: more than will ever be split off
unfoldable pub all_parts : ℕ
all_parts = 2 ^ 60

module _ {T : Type 0} where
  abbrev pub known_as : Bool → ℕ → List (ℕ × T) → List (ℕ × T) → Known T
  known_as live parts took posted = record { live = live; parts = parts; took = took; posted = posted }

  -- the pass that a new inbox comes with
  abbrev pub first_known : Known T
  first_known = known_as true all_parts [] []

  -- the pass was joined to another
  abbrev pub spent : Known T
  spent = known_as false 0 [] []

  -- a pass after another was split off: it gave a part away
  abbrev pub one_less : Known T → Known T
  one_less v = record v { parts = v.parts - 1 }

  -- the pass that was split off: it has a part where the other keeps one too
  abbrev pub newcomer : Known T → Known T
  newcomer v = known_as true (if nat_lt 1 v.parts then 1 else 0) [] []

  -- what was in the second pass is in the first one
  abbrev pub together : Known T → Known T → Known T
  together v w = known_as v.live (v.parts + w.parts) (v.took ++ w.took) (v.posted ++ w.posted)

  -- the places of these items
  abbrev pub places : List (ℕ × T) → List ℕ
  places items = map (λ item. item.0) items

  -- each of the items stands at its place in the list
  abbrev pub Stand : List T → List (ℕ × T) → Type 0
  Stand all [] = ⊤
  Stand all (item ∷ items) = (slice_get all item.0 ≡ Some item.1) × Stand all items

  -- each of the items passes
  abbrev pub Each : (T → Type 0) → List T → Type 0
  Each Fits [] = ⊤
  Each Fits (x ∷ xs) = Fits x × Each Fits xs

  -- What the inbox holds may be posted. All that was taken so far, in the order of the takes, and then what the inbox
  -- holds, is all that was posted, in the order of the posts. Each item that was posted, and each that was taken, is
  -- known to one pass, at its place. While no part is lost, a pass without a part is one that was joined to another.
  pub record IsKept (Fits : T → Type 0) (items : List T) (views : List (Known T)) : Type 0 where
    pub fit : Each Fits items
    pub taken : List T
    pub took : (x : ℕ) → sum_by (λ v. times x (places v.took)) views ≡ once_below (length taken) x
    pub all_took : sum_by (λ v. length v.took) views ≡ length taken
    pub posted : (x : ℕ) → sum_by (λ v. times x (places v.posted)) views ≡ once_below (length (taken ++ items)) x
    pub all_posted : sum_by (λ v. length v.posted) views ≡ length (taken ++ items)
    pub stand : (place : ℕ) (v : Known T) → get_elem? views place ≡ some v →
        Stand taken v.took × Stand (taken ++ items) v.posted
    pub within : sum_by (λ v. v.parts) views ≤ all_parts
    pub idle : sum_by (λ v. v.parts) views ≡ all_parts → (place : ℕ) (v : Known T) → get_elem? views place ≡ some v →
        v.parts ≡ 0 → v ≡ spent

  -- all passes are in this one
  abbrev pub IsWhole : Known T → Type 0
  IsWhole v = v.parts ≡ all_parts

  -- At a step at which these had been taken, and the inbox held those items, the pass had taken and posted items that
  -- stand at their places; and if it is whole, each that was taken and each that was posted, once.
  pub record Seen (taken items : List T) (v : Known T) : Type 0 where
    pub took : Stand taken v.took
    pub posted : Stand (taken ++ items) v.posted
    pub each_took : IsWhole v → IsEachOnce (length taken) (places v.took)
    pub each_posted : IsWhole v → IsEachOnce (length (taken ++ items)) (places v.posted)

  -- at a step, the inbox held these items
  abbrev pub Saw : Known T → List T → Type 0
  Saw v items = (taken : List T) × Seen taken items v

  -- at one step, x left at the front, and it is one that may be posted
  abbrev pub Took : (T → Type 0) → Known T → T → Known T → Type 0
  Took Fits v x w = Fits x × (taken : List T) × (items : List T) × Seen taken (x ∷ items) v
      × (w ≡ record v { took = v.took ++ (length taken, x) ∷ [] })

  -- at one step, x joined at the back
  abbrev pub Posted : Known T → T → Known T → Type 0
  Posted v x w = (taken : List T) × (items : List T) × Seen taken items v
      × (w ≡ record v { posted = v.posted ++ (length (taken ++ items), x) ∷ [] })
