-- Who waits asks, and what it asks for it is given: a number that a connected master had ordered when another asked for it.
-- (After Prime's reconciliation; asking by name and shares are this project's own.)
use Rattle.std.specs.Prelude.{◌≡◌, ℕ, ◌+◌, ◌<◌, ◌≤◌, Bool, true, List, [], ◌∷◌, ◌++◌, Some, None, filter, length, nat_eq}
use Rattle.plain_lists.specs.Lists.{IsIn}
use Rattle.message_types.specs.declared.signed.Signed.{Signed}
use Rattle.message_types.specs.declared.body.Body.{Body}
use Rattle.message_types.specs.declared.body.Body.TheVariants as body
use Rattle.protocol_rules.specs.declared.limits.TheConstants.{LONG_WAIT}
use Rattle.protocol_rules.specs.Group.{is_live, most_number}
use Rattle.protocol_rules.specs.Facts.{facts_of}
use Rattle.protocol_rules.specs.Order.{ordered, gapless}
use Rattle.protocol_rules.specs.Reconcile.{orders_asked}
use Rattle.protocol_rules.specs.Lacking.{may_ask, share}
use Rattle.protocol_rules.specs.Master.{said_before, answered_in}
use Rattle.history_rules.specs.Events.{Tick, Entry, frame_taken}
use Rattle.history_rules.specs.Setup.{Setup, is_correct_master, room, own}
use Rattle.history_rules.specs.Legal.{Stands, IsLegal, heard}
use Rattle.history_rules.specs.Audit.{HasSaid}
use Rattle.agreement.specs.Laws.{IsSound, known_by}
use Rattle.progress.specs.Rounds.{AreConnected, IsRound}
use Rattle.progress.specs.Laws.{known_when}
use Rattle.progress.specs.Serving.{ticks_among, waited_by}

-- At a tick at which it has waited in its view for more than 16 ticks a correct master asks for the number after those that it
-- has ordered without a gap, where it didn't yet, or asks again are due.
abbrev pub WaitingAsks : Type 0
WaitingAsks =
    (w : Setup) (history before : List Entry) (e : Entry) (m : ℕ) → is_live w.group ≡ true → IsLegal w history
    → is_correct_master w m ≡ true → 1 ≤ room w (own history m) → Stands history before e → e.actor ≡ m → e.event ≡ Tick
    → LONG_WAIT < waited_by w (before ++ e ∷ []) m → (s : ℕ)
    → s ≡ gapless w.group (facts_of w.group (known_by w (before ++ e ∷ []) m)) + 1 → s ≤ most_number
    → ordered w.group (facts_of w.group (known_by w (before ++ e ∷ []) m)) s ≡ None
    → may_ask (said_before (heard w before m)) (ticks_among (before ++ e ∷ []) m) (orders_asked s) ≡ true
    → IsIn (body.AskOrder record { s = s }) e.said

-- Whenever the one master takes a word of the other it has answered fewer of that one's asks than its share.
pub record IsWithinShare (w : Setup) (history : List Entry) (asked asker : ℕ) : Type 0 where
  pub fewer : (before : List Entry) (e : Entry) → Stands history before e → e.actor ≡ asked → (f : Signed Body)
      → frame_taken e.event ≡ Some f → f.signer ≡ asker → length (filter (nat_eq asker) (answered_in (heard w before asked)))
      < share w.group (known_when w before asked e) (facts_of w.group (known_when w before asked e))
      (ticks_among (before ++ e ∷ []) asked)

-- A number that a connected master asked for in the beginning, when another had it ordered already, it has ordered two rounds
-- later, where the other is within its share for it.
abbrev pub AskedIsGiven : Type 0
AskedIsGiven =
    (w : Setup) (connected : ℕ → Bool) (beginning first second : List Entry) → is_live w.group ≡ true
    → IsSound w ((beginning ++ first) ++ second) → AreConnected w connected → IsRound w connected beginning first
    → IsRound w connected (beginning ++ first) second → (i m s : ℕ) (rows : List (List ℕ)) → connected i ≡ true
    → connected m ≡ true → (i ≡ m → ⊥) → 1 ≤ room w (own (beginning ++ first) i)
    → (asked : HasSaid beginning m (body.AskOrder record { s = s }))
    → ordered w.group (facts_of w.group (known_by w asked.before i)) s ≡ Some rows
    → IsWithinShare w (beginning ++ first) i m
    → ordered w.group (facts_of w.group (known_by w ((beginning ++ first) ++ second) m)) s ≡ Some rows

-- So one that has waited for so long gets the next number: two rounds after its tick it has ordered one number more without a
-- gap, where a connected master had that number ordered then, and is within its share for it.
abbrev pub NextIsGiven : Type 0
NextIsGiven =
    (w : Setup) (connected : ℕ → Bool) (beginning first second before : List Entry) (e : Entry) → is_live w.group ≡ true
    → IsSound w ((beginning ++ first) ++ second) → AreConnected w connected → IsRound w connected beginning first
    → IsRound w connected (beginning ++ first) second → (i m : ℕ) → connected i ≡ true → connected m ≡ true → (i ≡ m → ⊥)
    → 1 ≤ room w (own beginning m) → 1 ≤ room w (own (beginning ++ first) i)
    → Stands beginning before e → e.actor ≡ m → e.event ≡ Tick → LONG_WAIT < waited_by w (before ++ e ∷ []) m
    → (s : ℕ) (rows : List (List ℕ)) → s ≡ gapless w.group (facts_of w.group (known_by w (before ++ e ∷ []) m)) + 1
    → s ≤ most_number → ordered w.group (facts_of w.group (known_by w before i)) s ≡ Some rows
    → may_ask (said_before (heard w before m)) (ticks_among (before ++ e ∷ []) m) (orders_asked s) ≡ true
    → IsWithinShare w (beginning ++ first) i m
    → s ≤ gapless w.group (facts_of w.group (known_by w ((beginning ++ first) ++ second) m))
