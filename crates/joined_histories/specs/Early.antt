-- In which order a joint history has its entries: a word is taken before it is said only where all that could come there would
-- take one so. (This project's own.)
use Rattle.std.specs.Prelude.{◌≡◌, ℕ, Bool, true, false, ◌&&◌, List}
use Rattle.std.specs.List.{list_any}
use Rattle.message_types.specs.declared.signed.Signed.{Signed}
use Rattle.message_types.specs.declared.body.Body.{Body}
use Rattle.history_rules.specs.Events.{Entry}
use Rattle.history_rules.specs.Setup.{Setup, own}
use Rattle.history_rules.specs.Legal.{Stands}
use Rattle.history_rules.specs.Audit.{parts_taken}
use Rattle.history_rules.specs.Counts.{has_said, is_forged}

-- The part bears a word that its correct signer says in this history, but at none of the entries before. So an audit counts it
-- as forged for the order's sake alone.
abbrev pub is_early : Setup → List Entry → List Entry → Signed Body → Bool
is_early w history before p = is_forged w before p && has_said history p.signer p.body

-- the entry, behind these, takes such a part
abbrev pub takes_early : Setup → List Entry → List Entry → Entry → Bool
takes_early w history before e = list_any (is_early w history before) (parts_taken e)

-- No entry takes a word before it is said, if it is said at all.
pub record NothingEarly (w : Setup) (history : List Entry) : Type 0 where
  pub each : (before : List Entry) (e : Entry) → Stands history before e → takes_early w history before e ≡ false

-- Where an entry does, each actor's next entry would do so at that place.
pub record EarlyOnlyWhereAllAre (w : Setup) (history : List Entry) : Type 0 where
  pub each : (before : List Entry) (e : Entry) → Stands history before e → takes_early w history before e ≡ true
      → (actor : ℕ) (next : Entry) → Stands (own history actor) (own before actor) next →
      takes_early w history before next ≡ true
