-- What joins a master as an object to histories.
use Rattle.std.specs.Prelude.{◌≡◌, ℕ, Bool, true, false, List, [], ◌∷◌, ◌++◌, Option}
use Rattle.plain_lists.specs.Lists.{IsIn}
use Rattle.message_types.specs.declared.signed.Signed.{Signed}
use Rattle.message_types.specs.declared.body.Body.{Body}
use Rattle.protocol_rules.specs.Master.{Heard}
use Rattle.history_rules.specs.Events.{Event, Entry, frame_taken, is_tick, is_silent}
use Rattle.history_rules.specs.Setup.{Setup, is_correct_master, own}
use Rattle.history_rules.specs.Legal.{IsLegal, heard_in, says_in}
use Rattle.words_in_place.specs.Laws.{ticks_heard}
use Rattle.master_node.specs.declared.running.Running.{Running}
use Rattle.master_node.specs.Charge.{Charge, leaves_left, says_at}
use Rattle.master_node.specs.Running.{IsRunning, HasSpoken, group_in, ticks_in, number_in, leaves_in}

-- what a setup charges a master with
abbrev pub charge_of : Setup → ℕ → Charge
charge_of w i = record {
  group = w.group;
  me = i;
  orders = w.orders;
  leaves = w.leaves;
  shared_leaves = w.shared_leaves;
}

-- nothing was said at the entries where nothing is heard
abbrev pub SilentSayNothing : List Entry → Type 0
SilentSayNothing own = (e : Entry) → IsIn e own → is_silent e.event ≡ true → e.said ≡ []

-- After any own list whose silent entries said nothing, a correct master that goes by its own list of events says just
-- what the rules of histories make it say.
abbrev pub SaysAsHistoriesDo : Type 0
SaysAsHistoriesDo =
    (w : Setup) (i : ℕ) (own : List Entry) (event : Event) → is_correct_master w i ≡ true → SilentSayNothing own →
    is_silent event ≡ false
    → says_at (charge_of w i) (heard_in w i own) (frame_taken event) (is_tick event) ≡ says_in w i own event

-- Each correct master's own list in a legal history, whoever is intruded, is such a list.
abbrev pub SilentSayNothingInHistories : Type 0
SilentSayNothingInHistories = (w : Setup) (history : List Entry) (i : ℕ) → IsLegal w history →
    is_correct_master w i ≡ true → SilentSayNothing (own history i)

-- A master counts its ticks.
abbrev pub TicksAreHeard : Type 0
TicksAreHeard = (c : Charge) (kept : Running) (before : List Heard) → IsRunning c kept before →
    ticks_in kept ≡ ticks_heard before

-- Where a master said nothing at an event, it needs no frames to go on.
abbrev pub NothingToSign : Type 0
NothingToSign =
    (c : Charge) (kept : Running) (before : List Heard) (took : Option (Signed Body)) (at_tick : Bool) →
    HasSpoken c kept before took at_tick → says_at c before took at_tick ≡ []
    → IsRunning c kept (before ++ record { took = took; is_tick = at_tick; said = [] } ∷ [])

-- A master's state keeps the group and the number that it is charged with, and tells the leaves that its events left.
abbrev pub KeepsItsCharge : Type 0
KeepsItsCharge =
    (c : Charge) (kept : Running) (before : List Heard) → IsRunning c kept before
    → (group_in kept ≡ c.group) × (number_in kept ≡ c.me) × (leaves_in kept ≡ leaves_left c before)
