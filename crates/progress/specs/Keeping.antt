-- A connected leader isn't voted out: under it what all have certified is ordered six rounds later, so where no request stays
-- hidden, and patience is longer than the ticks that these rounds have, each connected master gets in time what it waits for,
-- and so the view is kept. (What Prime and PBFT claim of a correct leader once the network is calm; definitions and steps are
-- this project's own.)
use Rattle.std.specs.Prelude.{◌≡◌, ℕ, ◌+◌, ◌*◌, ◌/◌, ◌^◌, ◌<◌, ◌≤◌, true, false, Bool, List, ◌++◌, length}
use Rattle.plain_lists.specs.Lists.{IsIn, Begins}
use Rattle.message_types.specs.declared.views.Plan.{Plan}
use Rattle.protocol_rules.specs.declared.limits.TheConstants.{FIRST_PATIENCE, FORGIVEN_STEP, MOST_DOUBLINGS}
use Rattle.protocol_rules.specs.Group.{Group, is_live, leader_of, most_number, window}
use Rattle.protocol_rules.specs.Facts.{facts_of}
use Rattle.protocol_rules.specs.Matrix.{eligible}
use Rattle.protocol_rules.specs.Order.{gapless, stable}
use Rattle.protocol_rules.specs.Preorder.{vector}
use Rattle.protocol_rules.specs.Patience.{patience}
use Rattle.protocol_rules.specs.Views.{view, is_open}
use Rattle.protocol_rules.specs.Master.{latest_rows}
use Rattle.history_rules.specs.Events.{Entry}
use Rattle.history_rules.specs.Setup.{Setup, is_correct_master, room, own}
use Rattle.history_rules.specs.Legal.{IsLegal}
use Rattle.history_rules.specs.Audit.{NothingForged}
use Rattle.agreement.specs.Laws.{IsSound, HasSizes, known_by}
use Rattle.progress.specs.Rounds.{AreConnected, IsRound, AreRounds, then_rounds}
use Rattle.progress.specs.Laws.{plan_by, next_offer}
use Rattle.progress.specs.UnderLeader.{IsLed, end_of}
use Rattle.progress.specs.Serving.{ticks_among, ordered_to, patience_by, AreServed}

-- What each connected master has certified of master j's requests before six rounds each has ordered after them.
abbrev pub CertifiedIsOrdered : Type 0
CertifiedIsOrdered =
    (w : Setup) (connected : ℕ → Bool) (v : ℕ) (plan : Plan) (beginning middle : List Entry) (rounds : List (List Entry))
    → is_live w.group ≡ true → IsSound w (then_rounds middle rounds) → AreConnected w connected
    → AreRounds w connected middle rounds → length rounds ≡ 6
    → IsLed w connected v plan beginning (then_rounds middle rounds) → Begins beginning middle
    → next_offer w (then_rounds middle rounds) v plan ≤ most_number
    → ((m : ℕ) → connected m ≡ true → next_offer w (then_rounds middle rounds) v plan
    ≤ stable w.group (facts_of w.group (known_by w middle m)) + window)
    → (j k : ℕ) → j < w.group.n → 1 ≤ k → ((m : ℕ) → connected m ≡ true → k ≤ vector w.group (known_by w middle m) j)
    → (m : ℕ) → connected m ≡ true → k ≤ ordered_to w (then_rounds middle rounds) m j

-- Each connected master came to view v at most so many of its ticks before the end of the beginning, and has at most so many in
-- each round.
pub record HaveFewTicks (w : Setup) (connected : ℕ → Bool) (v early most : ℕ) (beginning : List Entry)
    (rounds : List (List Entry)) : Type 0 where
  pub since : (first rest : List Entry) → beginning ≡ first ++ rest → (m : ℕ) → connected m ≡ true
      → view w.group (known_by w first m) ≡ v → ticks_among rest m ≤ early
  pub each : (round : List Entry) → IsIn round rounds → (m : ℕ) → connected m ≡ true → ticks_among round m ≤ most

-- What was eligible at a connected master in view v, by the end of some round, it has ordered so many rounds later.
pub record AreServedWithin (w : Setup) (connected : ℕ → Bool) (v count : ℕ) (beginning : List Entry)
    (rounds : List (List Entry)) : Type 0 where
  pub served : (first between rest : List (List Entry)) → rounds ≡ (first ++ between) ++ rest → length between ≡ count
      → (upto : List Entry) → Begins upto (then_rounds beginning first) → (m : ℕ) → connected m ≡ true
      → view w.group (known_by w upto m) ≡ v → (j : ℕ) → j < w.group.n
      → eligible w.group (latest_rows w.group (known_by w upto m)) j
      ≤ ordered_to w (then_rounds beginning (first ++ between)) m j

-- Who is served within so many rounds is served in time, where patience is longer than the ticks of these and one round more,
-- and those before.
abbrev pub ServedInRounds : Type 0
ServedInRounds =
    (w : Setup) (connected : ℕ → Bool) (v count early most : ℕ) (beginning : List Entry) (rounds : List (List Entry))
    → HaveFewTicks w connected v early most beginning rounds → AreServedWithin w connected v count beginning rounds
    → ((upto : List Entry) → Begins upto (then_rounds beginning rounds) → (m : ℕ) → connected m ≡ true
    → (count + 1) * most + early < patience_by w upto m v)
    → AreServed w connected v (then_rounds beginning rounds)

-- What is eligible of a connected master's requests at another each of them has certified two rounds later.
abbrev pub ConnectedAreShown : Type 0
ConnectedAreShown =
    (w : Setup) (connected : ℕ → Bool) (beginning first second : List Entry) → is_live w.group ≡ true
    → IsLegal w ((beginning ++ first) ++ second) → HasSizes w.group → NothingForged w ((beginning ++ first) ++ second)
    → AreConnected w connected → IsRound w connected beginning first → IsRound w connected (beginning ++ first) second
    → ((m : ℕ) → connected m ≡ true → 1 ≤ room w (own ((beginning ++ first) ++ second) m))
    → (upto : List Entry) → Begins upto beginning → (i j k : ℕ) → connected i ≡ true → connected j ≡ true → 1 ≤ k
    → k ≤ eligible w.group (latest_rows w.group (known_by w upto i)) j → (m : ℕ) → connected m ≡ true
    → k ≤ vector w.group (known_by w ((beginning ++ first) ++ second) m) j

-- What was eligible of others' requests at a connected master in view v, by the end of some round, each connected one has
-- certified so many rounds later: it wasn't hidden from them, or they were given what they asked for.
pub record NoneHidden (w : Setup) (connected : ℕ → Bool) (v count : ℕ) (beginning : List Entry)
    (rounds : List (List Entry)) : Type 0 where
  pub shown : (first between rest : List (List Entry)) → rounds ≡ (first ++ between) ++ rest → length between ≡ count
      → (upto : List Entry) → Begins upto (then_rounds beginning first) → (i : ℕ) → connected i ≡ true
      → view w.group (known_by w upto i) ≡ v → (j k : ℕ) → j < w.group.n → connected j ≡ false → 1 ≤ k
      → k ≤ eligible w.group (latest_rows w.group (known_by w upto i)) j → (m : ℕ) → connected m ≡ true
      → k ≤ vector w.group (known_by w (then_rounds beginning (first ++ between)) m) j

-- View v begins under a connected leader: all connected masters are in it, know its plan, have ordered all up to the plan's
-- base, and each one's window reaches the plan's end. (Nothing is said of what comes then.)
pub record BeginsLed (w : Setup) (connected : ℕ → Bool) (v : ℕ) (plan : Plan) (beginning : List Entry) : Type 0 where
  pub leader : connected (leader_of w.group v) ≡ true
  pub came : (m : ℕ) → connected m ≡ true → view w.group (known_by w beginning m) ≡ v
  pub opened : (m : ℕ) → connected m ≡ true → is_open w.group (known_by w beginning m) ≡ true
  pub planned : (m : ℕ) → connected m ≡ true → plan_by w beginning m v plan
  pub based : (m : ℕ) → connected m ≡ true → plan.base ≤ gapless w.group (facts_of w.group (known_by w beginning m))
  pub windows : (m : ℕ) → connected m ≡ true → end_of plan ≤
      stable w.group (facts_of w.group (known_by w beginning m)) + window

-- No limit is reached: each connected master has a leaf left in the end, and the leader numbers left; and in no six rounds does
-- it offer further than the window that each connected master had before them.
pub record HaveSpace (w : Setup) (connected : ℕ → Bool) (v : ℕ) (plan : Plan) (beginning : List Entry)
    (rounds : List (List Entry)) : Type 0 where
  pub leaves : (m : ℕ) → connected m ≡ true → 1 ≤ room w (own (then_rounds beginning rounds) m)
  pub numbers : next_offer w (then_rounds beginning rounds) v plan ≤ most_number
  pub windows : (first between rest : List (List Entry)) → rounds ≡ (first ++ between) ++ rest → length between ≡ 6
      → (m : ℕ) → connected m ≡ true → next_offer w (then_rounds beginning (first ++ between)) v plan
      ≤ stable w.group (facts_of w.group (known_by w (then_rounds beginning first) m)) + window

-- A connected leader serves: in a view that begins under it, over any number of fair rounds in which nothing that is eligible of
-- others' requests stays hidden for longer than `count` of them, each connected master gets in time what it waits for, where
-- patience is longer than the ticks of eight rounds and these, and those before.
abbrev pub LeaderServes : Type 0
LeaderServes =
    (w : Setup) (connected : ℕ → Bool) (v count early most : ℕ) (plan : Plan) (beginning : List Entry) (rounds : List (List Entry))
    → is_live w.group ≡ true → IsSound w (then_rounds beginning rounds) → AreConnected w connected
    → AreRounds w connected beginning rounds → BeginsLed w connected v plan beginning
    → HaveSpace w connected v plan beginning rounds → HaveFewTicks w connected v early most beginning rounds
    → 2 ≤ count → NoneHidden w connected v count beginning rounds
    → ((upto : List Entry) → Begins upto (then_rounds beginning rounds) → (m : ℕ) → connected m ≡ true
    → (count + 8) * most + early < patience_by w upto m v)
    → AreServed w connected v (then_rounds beginning rounds)

-- So a connected leader isn't voted out: no correct master goes beyond its view.
abbrev pub LeaderIsKept : Type 0
LeaderIsKept =
    (w : Setup) (connected : ℕ → Bool) (v count early most : ℕ) (plan : Plan) (beginning : List Entry) (rounds : List (List Entry))
    → is_live w.group ≡ true → IsSound w (then_rounds beginning rounds) → AreConnected w connected
    → AreRounds w connected beginning rounds → BeginsLed w connected v plan beginning
    → HaveSpace w connected v plan beginning rounds → HaveFewTicks w connected v early most beginning rounds
    → 2 ≤ count → NoneHidden w connected v count beginning rounds
    → ((upto : List Entry) → Begins upto (then_rounds beginning rounds) → (m : ℕ) → connected m ≡ true
    → (count + 8) * most + early < patience_by w upto m v)
    → (m : ℕ) → is_correct_master w m ≡ true → view w.group (known_by w (then_rounds beginning rounds) m) ≤ v

-- Patience grows: from n times so many views on, and one more for each 1,024 ticks, it is 32 ticks doubled so many times, up to
-- 16 times.
abbrev pub PatienceGrows : Type 0
PatienceGrows =
    (g : Group) (v now doublings : ℕ) → 1 ≤ g.n → doublings ≤ MOST_DOUBLINGS
    → g.n * doublings + now / FORGIVEN_STEP ≤ v → FIRST_PATIENCE * 2 ^ doublings ≤ patience g v now
