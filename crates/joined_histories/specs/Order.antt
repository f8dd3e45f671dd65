-- Which actors have entries left while lists are joined, and which of these entries wait for words that are left too. (This
-- project's own.)
use Rattle.std.specs.Prelude.{◌≡◌, ℕ, Bool, true, false, ◌&&◌, not, List, Option, Some, None, length, nat_lt, take, drop, slice_get}
use Rattle.std.specs.Prelude.{slice_index}
use Rattle.std.specs.List.{list_any}
use Rattle.message_types.specs.declared.signed.Signed.{Signed}
use Rattle.message_types.specs.declared.body.Body.{Body}
use Rattle.history_rules.specs.Events.{Entry}
use Rattle.history_rules.specs.Setup.{Setup, is_correct, own}
use Rattle.history_rules.specs.Legal.{Stands}
use Rattle.history_rules.specs.Audit.{parts_taken}
use Rattle.history_rules.specs.Counts.{is_forged}
use Rattle.history_rules.specs.Sameness.{is_same_body}
use Rattle.joint_lists.specs.Joint.{kept_by}

-- ---- What is left.

abbrev pub is_less : Option (List Entry) → Option ℕ → Bool
is_less (Some list) (Some joined) = nat_lt joined (length list)
is_less _ _ = false

-- whether an actor has an entry left, of whose list so many were joined
abbrev pub is_left : List (List Entry) → List ℕ → ℕ → Bool
is_left lists next actor = is_less (slice_get lists actor) (slice_get next actor)

abbrev pub NoneLeft : List (List Entry) → List ℕ → Type 0
NoneLeft lists next = (actor : ℕ) → is_left lists next actor ≡ false

-- ---- What waits.

-- the entry says the body
abbrev pub says : Body → Entry → Bool
says b e = list_any (is_same_body b) e.said

-- of a list of which so many entries were joined: none of these says the body, but one that is left does
abbrev pub comes_later : Body → List Entry → ℕ → Bool
comes_later b list joined = not (list_any (says b) (take joined list)) && list_any (says b) (drop joined list)

abbrev pub later_in : Body → Option (List Entry) → Option ℕ → Bool
later_in b (Some list) (Some joined) = comes_later b list joined
later_in b _ _ = false

-- the part bears a word of a correct actor that is still to come
abbrev pub waits_for : Setup → List (List Entry) → List ℕ → Signed Body → Bool
waits_for w lists next p =
    is_correct w p.signer && later_in p.body (slice_get lists p.signer) (slice_get next p.signer)

-- the entry takes such a part
abbrev pub waits : Setup → List (List Entry) → List ℕ → Entry → Bool
waits w lists next e = list_any (waits_for w lists next) (parts_taken e)

abbrev pub waits_if : Setup → List (List Entry) → List ℕ → Option Entry → Bool
waits_if w lists next None = false
waits_if w lists next (Some e) = waits w lists next e

-- an actor's next entry does
abbrev pub next_waits : Setup → List (List Entry) → List ℕ → ℕ → Bool
next_waits w lists next actor = waits_if w lists next (slice_get (kept_by lists actor) (slice_index next actor))

-- the actor has an entry left that doesn't wait
abbrev pub is_ready : Setup → List (List Entry) → List ℕ → ℕ → Bool
is_ready w lists next actor = is_left lists next actor && not (next_waits w lists next actor)

-- all that are left wait
abbrev pub AllWait : Setup → List (List Entry) → List ℕ → Type 0
AllWait w lists next = (actor : ℕ) → is_left lists next actor ≡ true → next_waits w lists next actor ≡ true

-- The actor's entry may come next: it is left, and waits only where all do.
pub record IsDue (w : Setup) (lists : List (List Entry)) (next : List ℕ) (actor : ℕ) : Type 0 where
  pub left : is_left lists next actor ≡ true
  pub waits : next_waits w lists next actor ≡ true → AllWait w lists next

-- ---- What was joined.

-- the entry, behind these, takes a word of a correct actor that isn't said yet, but is by its list
abbrev pub is_early_by : Setup → List (List Entry) → List Entry → Signed Body → Bool
is_early_by w lists before p = is_forged w before p && list_any (says p.body) (kept_by lists p.signer)

abbrev pub early_by : Setup → List (List Entry) → List Entry → Entry → Bool
early_by w lists before e = list_any (is_early_by w lists before) (parts_taken e)

-- An entry takes such a word only where each actor's next would.
pub record IsOrdered (w : Setup) (lists : List (List Entry)) (history : List Entry) : Type 0 where
  pub each : (before : List Entry) (e : Entry) → Stands history before e → early_by w lists before e ≡ true
      → (actor : ℕ) (next : Entry) → slice_get (kept_by lists actor) (length (own before actor)) ≡ Some next →
      early_by w lists before next ≡ true
