-- What becomes of a view by how it serves: a master that lacks for longer than its patience what was eligible there votes
-- against the leader, and where more than f + k connected ones do the view is left; a view that gives each of them in time
-- what it waits for is kept. (Prime's bounded turnaround and PBFT's growing timeouts; the laws and their form are this
-- project's own.)
use Rattle.std.specs.Prelude.{◌≡◌, ℕ, ◌<◌, ◌≤◌, ◌+◌, ◌⊎◌, Bool, true, false, ◌&&◌, List, [], ◌++◌, ◌∷◌, filter, length, nat_eq}
use Rattle.std.specs.Prelude.{nat_lt}
use Rattle.plain_lists.specs.Lists.{IsIn, Begins}
use Rattle.quorum_sets.specs.Masters.{voters}
use Rattle.message_types.specs.declared.updates.Update.{Update}
use Rattle.message_types.specs.declared.body.Body.TheVariants as body
use Rattle.protocol_rules.specs.Group.{is_live, most_view, leader_of}
use Rattle.protocol_rules.specs.Facts.{facts_of}
use Rattle.protocol_rules.specs.Matrix.{reach, exceeds}
use Rattle.protocol_rules.specs.Order.{ordered_run}
use Rattle.protocol_rules.specs.Views.{view, is_open, is_suspected}
use Rattle.protocol_rules.specs.Patience.{Moment, wait, patience}
use Rattle.protocol_rules.specs.Master.{latest_rows, moments_of}
use Rattle.history_rules.specs.Events.{Tick, Entry, is_tick}
use Rattle.history_rules.specs.Setup.{Setup, is_correct_master, room, own}
use Rattle.history_rules.specs.Legal.{Stands, IsLegal, heard, executions}
use Rattle.history_rules.specs.Audit.{HasSaid, NothingForged}
use Rattle.agreement.specs.Laws.{IsSound, HasSizes, known_by}
use Rattle.progress.specs.Rounds.{AreConnected, IsRound, AreRounds, then_rounds}
use Rattle.progress.specs.Laws.{HaveRoom, LackNothing, IsHanded}

-- how many ticks of the master are among the entries
abbrev pub ticks_among : List Entry → ℕ → ℕ
ticks_among entries m = length (filter (λ e. nat_eq e.actor m && is_tick e.event) entries)

-- how far a master has ordered each one's requests after a history, without a gap
abbrev pub ordered_to : Setup → List Entry → ℕ → ℕ → ℕ
ordered_to w history m = reach w.group (ordered_run w.group (facts_of w.group (known_by w history m)))

-- the moments of a master's own events of a history, and by them the ticks that it has waited in its view
abbrev pub moments_by : Setup → List Entry → ℕ → List Moment
moments_by w history m = moments_of w.group [] (heard w history m)

abbrev pub waited_by : Setup → List Entry → ℕ → ℕ
waited_by w history m =
    wait w.group (view w.group (known_by w history m)) (ordered_to w history m) (moments_by w history m)

-- how long a master's patience in view v is after a history, by its own ticks
abbrev pub patience_by : Setup → List Entry → ℕ → ℕ → ℕ
patience_by w history m v = patience w.group v (ticks_among history m)

-- it has waited for longer than that
abbrev pub is_impatient : Setup → List Entry → ℕ → Bool
is_impatient w history m = nat_lt (patience_by w history m (view w.group (known_by w history m))) (waited_by w history m)

-- Something that its latest summaries made eligible at a master in the beginning isn't ordered there in the whole.
abbrev pub is_starved : Setup → List Entry → List Entry → ℕ → Bool
is_starved w beginning whole m = exceeds w.group (latest_rows w.group (known_by w beginning m)) (ordered_to w whole m)

-- A master is in view v, and has been so and has lacked something that was eligible there for more ticks of its own than its
-- patience.
pub record HasStarved (w : Setup) (history : List Entry) (m v : ℕ) : Type 0 where
  pub beginning : List Entry
  pub since : List Entry
  pub whole : history ≡ beginning ++ since
  pub came : view w.group (known_by w beginning m) ≡ v
  pub stayed : view w.group (known_by w history m) ≡ v
  pub lacks : is_starved w beginning history m ≡ true
  pub long : patience_by w history m v < ticks_among since m

-- In no tick of the history that it had in view v was a connected master at the end of its patience.
pub record ArePatient (w : Setup) (connected : ℕ → Bool) (v : ℕ) (history : List Entry) : Type 0 where
  pub patient : (before : List Entry) (e : Entry) → Stands history before e → connected e.actor ≡ true → e.event ≡ Tick
      → view w.group (known_by w (before ++ e ∷ []) e.actor) ≡ v → is_impatient w (before ++ e ∷ []) e.actor ≡ false

-- Whatever was eligible at a connected master in view v it has ordered, or left the view, before as many ticks of its own
-- passed as its patience is long.
pub record AreServed (w : Setup) (connected : ℕ → Bool) (v : ℕ) (history : List Entry) : Type 0 where
  pub served : (beginning since : List Entry) → Begins (beginning ++ since) history → (m : ℕ) → connected m ≡ true
      → view w.group (known_by w beginning m) ≡ v → view w.group (known_by w (beginning ++ since) m) ≡ v
      → is_starved w beginning (beginning ++ since) m ≡ true
      → ticks_among since m < patience_by w (beginning ++ since) m v

-- A correct master votes at a tick at which its patience is at its end.
abbrev pub ImpatientVotes : Type 0
ImpatientVotes =
    (w : Setup) (history before : List Entry) (e : Entry) (m : ℕ) → is_live w.group ≡ true → IsLegal w history
    → is_correct_master w m ≡ true → 1 ≤ room w (own history m) → Stands history before e → e.actor ≡ m → e.event ≡ Tick
    → view w.group (known_by w (before ++ e ∷ []) m) < most_view → is_impatient w (before ++ e ∷ []) m ≡ true
    → HasSaid history m (body.Suspect record { v = view w.group (known_by w (before ++ e ∷ []) m) })

-- A correct master that has lacked for longer than its patience what was eligible there has voted against its view.
abbrev pub StarvedVotes : Type 0
StarvedVotes =
    (w : Setup) (history : List Entry) (m v : ℕ) → is_live w.group ≡ true → IsLegal w history
    → is_correct_master w m ≡ true → 1 ≤ room w (own history m) → v < most_view → HasStarved w history m v
    → HasSaid history m (body.Suspect record { v = v })

-- A view in which more than f + k connected masters have lacked something for so long all have left two rounds later.
abbrev pub StarvedIsLeft : Type 0
StarvedIsLeft =
    (w : Setup) (connected : ℕ → Bool) (history first second : List Entry) → is_live w.group ≡ true
    → IsLegal w ((history ++ first) ++ second) → AreConnected w connected → IsRound w connected history first
    → IsRound w connected (history ++ first) second
    → ((m : ℕ) → connected m ≡ true → 1 ≤ room w (own ((history ++ first) ++ second) m))
    → (v : ℕ) → v < most_view → (starved : ℕ → Bool) → w.group.f + w.group.k < length (voters starved w.group.n)
    → ((m : ℕ) → starved m ≡ true → (connected m ≡ true) × HasStarved w history m v)
    → (m : ℕ) → connected m ≡ true → v < view w.group (known_by w ((history ++ first) ++ second) m)

-- the master is in view v, and lacks something that was eligible there in the beginning
abbrev pub is_held : Setup → ℕ → List Entry → List Entry → ℕ → Bool
is_held w v beginning whole m = nat_eq (view w.group (known_by w whole m)) v && is_starved w beginning whole m

-- Served or gone: once each connected master has had more ticks in a view than its patience is long, all of them leave it
-- within two rounds, or all but at most f + k of them have ordered what was eligible there when they came, or have left.
abbrev pub ServedOrGone : Type 0
ServedOrGone =
    (w : Setup) (connected : ℕ → Bool) (beginning since first second : List Entry) → is_live w.group ≡ true
    → IsLegal w (((beginning ++ since) ++ first) ++ second) → AreConnected w connected
    → IsRound w connected (beginning ++ since) first → IsRound w connected ((beginning ++ since) ++ first) second
    → ((m : ℕ) → connected m ≡ true → 1 ≤ room w (own (((beginning ++ since) ++ first) ++ second) m))
    → (v : ℕ) → v < most_view → ((m : ℕ) → connected m ≡ true → view w.group (known_by w beginning m) ≡ v)
    → ((m : ℕ) → connected m ≡ true → patience_by w (beginning ++ since) m v < ticks_among since m)
    → ((m : ℕ) → connected m ≡ true → v < view w.group (known_by w (((beginning ++ since) ++ first) ++ second) m))
    ⊎ (length (voters (λ m. connected m && is_held w v beginning (beginning ++ since) m) w.group.n) ≤ w.group.f + w.group.k)

-- Where no connected master voted against a view no correct master knows a quorum's votes against it: the others are at most
-- f + k.
abbrev pub UnvotedIsKept : Type 0
UnvotedIsKept =
    (w : Setup) (connected : ℕ → Bool) (history : List Entry) → IsLegal w history → HasSizes w.group
    → NothingForged w history → AreConnected w connected → (v : ℕ)
    → ((m : ℕ) → connected m ≡ true → HasSaid history m (body.Suspect record { v = v }) → ⊥)
    → (m : ℕ) → is_correct_master w m ≡ true → is_suspected w.group (known_by w history m) v ≡ false

-- A view in which no connected master comes to the end of its patience none of them votes against, nor against a later one,
-- and no correct master goes beyond it, whatever the others say.
abbrev pub PatientIsKept : Type 0
PatientIsKept =
    (w : Setup) (connected : ℕ → Bool) (history : List Entry) → is_live w.group ≡ true → IsLegal w history
    → HasSizes w.group → NothingForged w history → AreConnected w connected → (v : ℕ) → ArePatient w connected v history
    → ((m u : ℕ) → connected m ≡ true → HasSaid history m (body.Suspect record { v = u }) → u < v)
    × ((m : ℕ) → is_correct_master w m ≡ true → view w.group (known_by w history m) ≤ v)

-- Who gets in time what it waits for doesn't come to the end of its patience.
abbrev pub ServedArePatient : Type 0
ServedArePatient =
    (w : Setup) (connected : ℕ → Bool) (history : List Entry) (v : ℕ) → AreServed w connected v history
    → ArePatient w connected v history

-- So a view that serves the connected masters is kept, by each correct one.
abbrev pub ServedIsKept : Type 0
ServedIsKept =
    (w : Setup) (connected : ℕ → Bool) (history : List Entry) → is_live w.group ≡ true → IsLegal w history
    → HasSizes w.group → NothingForged w history → AreConnected w connected → (v : ℕ) → AreServed w connected v history
    → (m : ℕ) → is_correct_master w m ≡ true → view w.group (known_by w history m) ≤ v

-- And the next leader follows: where more than f + k connected masters have starved in a view, and a connected master leads the
-- next one, in which none of them comes to the end of its patience meanwhile, all of them are in that one four rounds later,
-- and it is open to each.
abbrev pub NextViewOpens : Type 0
NextViewOpens =
    (w : Setup) (connected : ℕ → Bool) (history first second third fourth : List Entry) → is_live w.group ≡ true
    → IsLegal w (then_rounds history (first ∷ second ∷ third ∷ fourth ∷ [])) → HasSizes w.group
    → NothingForged w (then_rounds history (first ∷ second ∷ third ∷ fourth ∷ [])) → AreConnected w connected
    → AreRounds w connected history (first ∷ second ∷ third ∷ fourth ∷ [])
    → ((m : ℕ) → connected m ≡ true → 1 ≤ room w (own (then_rounds history (first ∷ second ∷ third ∷ fourth ∷ [])) m))
    → (v : ℕ) → v < most_view → (starved : ℕ → Bool) → w.group.f + w.group.k < length (voters starved w.group.n)
    → ((m : ℕ) → starved m ≡ true → (connected m ≡ true) × HasStarved w history m v)
    → connected (leader_of w.group (v + 1)) ≡ true
    → ArePatient w connected (v + 1) (then_rounds history (first ∷ second ∷ third ∷ fourth ∷ []))
    → (m : ℕ) → connected m ≡ true
    → (view w.group (known_by w (then_rounds history (first ∷ second ∷ third ∷ fourth ∷ [])) m) ≡ v + 1)
    × (is_open w.group (known_by w (then_rounds history (first ∷ second ∷ third ∷ fourth ∷ [])) m) ≡ true)

-- Progress under a leader that serves: in a view to which all connected masters came, that is open to each and that one of
-- them leads, and in which each gets in time what it waits for, what a client handed to a connected door stands in the
-- executions of each of them nine rounds later. That the view is kept is no premise here.
abbrev pub UnderServingLeader : Type 0
UnderServingLeader =
    (w : Setup) (connected : ℕ → Bool) (beginning : List Entry) (rounds : List (List Entry)) (v door : ℕ) (u : Update)
    → is_live w.group ≡ true → IsSound w (then_rounds beginning rounds) → AreConnected w connected
    → AreRounds w connected beginning rounds → length rounds ≡ 9 → connected (leader_of w.group v) ≡ true
    → ((m : ℕ) → connected m ≡ true → view w.group (known_by w beginning m) ≡ v)
    → ((m : ℕ) → connected m ≡ true → is_open w.group (known_by w beginning m) ≡ true)
    → AreServed w connected v (then_rounds beginning rounds)
    → HaveRoom w connected v door beginning (then_rounds beginning rounds)
    → LackNothing w connected v beginning (then_rounds beginning rounds)
    → IsHanded w connected door u beginning (then_rounds beginning rounds)
    → (m : ℕ) → connected m ≡ true → IsIn u (executions w (then_rounds beginning rounds) m)
