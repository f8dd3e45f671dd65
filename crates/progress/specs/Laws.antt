-- The laws of progress, as statements over every setup and history: what is executed where the network is fair. They
-- speak of the rules that stay alive; under those first specified they are false. (What Prime and PBFT claim of liveness, here of
-- whole legal histories; definitions and steps are this project's own.)
use Rattle.std.specs.Prelude.{◌≡◌, ℕ, ◌+◌, ◌<◌, ◌≤◌, ◌⊎◌, Bool, true, false, List, [], ◌++◌, ◌∷◌, Some, None, length, max, ◌-◌}
use Rattle.std.specs.List.{filter_map}
use Rattle.plain_lists.specs.Lists.{IsIn, Begins}
use Rattle.message_types.specs.declared.signed.Signed.{Signed}
use Rattle.message_types.specs.declared.updates.Update.{Update}
use Rattle.message_types.specs.declared.preordering.PoRequest.{PoRequest}
use Rattle.message_types.specs.declared.views.Plan.{Plan}
use Rattle.message_types.specs.declared.body.Body.{Body}
use Rattle.message_types.specs.declared.body.Body.TheVariants as body
use Rattle.message_types.specs.Digests.{digest_of_rows}
use Rattle.protocol_rules.specs.Group.{Group, is_live, is_door, leader_of, most_number, window}
use Rattle.protocol_rules.specs.Facts.{facts_of}
use Rattle.protocol_rules.specs.Matrix.{eligible, latest_frames, reach, exceeds}
use Rattle.protocol_rules.specs.Words.{numbers_from}
use Rattle.protocol_rules.specs.Order.{gapless, stable, plan_known, offered, prepared, is_voted, prepare_by, commit_by}
use Rattle.protocol_rules.specs.Preorder.{certified, vector}
use Rattle.protocol_rules.specs.Views.{view, is_open}
use Rattle.protocol_rules.specs.Worth.{is_worth}
use Rattle.protocol_rules.specs.Execution.{updates_of}
use Rattle.protocol_rules.specs.Turns.{last_request, last_introduced, has_turn}
use Rattle.protocol_rules.specs.Master.{said_before, answers, next_number, waiting_for, latest_rows}
use Rattle.protocol_rules.specs.Master.{known_at, counted_rows}
use Rattle.history_rules.specs.Events.{Tick, Entry, frame_taken, is_tick, is_silent}
use Rattle.history_rules.specs.Setup.{Setup, is_correct_master, room, own}
use Rattle.history_rules.specs.Legal.{Stands, IsLegal, heard, executions}
use Rattle.history_rules.specs.Audit.{HasSaid, NothingForged}
use Rattle.agreement.specs.Laws.{IsSound, HasSizes, known_by}
use Rattle.progress.specs.Rounds.{AreConnected, goes_to, IsRound, AreRounds, then_rounds}

-- The master knows, in the signer's name, the word.
pub record KnowsWord (known : List (Signed Body)) (signer : ℕ) (b : Body) : Type 0 where
  pub part : Signed Body
  pub among : IsIn part known
  pub by : part.signer ≡ signer
  pub word : part.body ≡ b

-- What a master knows only grows, at its end.
abbrev pub KnownGrows : Type 0
KnownGrows = (w : Setup) (history first : List Entry) (i : ℕ) → Begins first history →
    Begins (known_by w first i) (known_by w history i)

-- What one connected master said before a round is known to each connected master that it goes to, and to itself, after
-- the round.
abbrev pub WordsArrive : Type 0
WordsArrive =
    (w : Setup) (connected : ℕ → Bool) (beginning round : List Entry) → IsLegal w (beginning ++ round)
    → AreConnected w connected → IsRound w connected beginning round
    → (i m : ℕ) → connected i ≡ true → connected m ≡ true → (b : Body) → HasSaid beginning i b
    → (m ≡ i) ⊎ (goes_to w.group i b m ≡ true) → KnowsWord (known_by w (beginning ++ round) m) i b

-- what the rules make a master say at an event after this history, with leaves enough
abbrev pub due_at : Setup → List Entry → ℕ → Entry → List Body
due_at w before m e = answers w.group w.orders m (heard w before m) (frame_taken e.event) (is_tick e.event)

-- A correct master that has a leaf left in the end has said, at each event, all that was due.
abbrev pub AllIsSaid : Type 0
AllIsSaid =
    (w : Setup) (history before : List Entry) (e : Entry) (m : ℕ) → IsLegal w history → is_correct_master w m ≡ true
    → 1 ≤ room w (own history m) → Stands history before e → e.actor ≡ m → is_silent e.event ≡ false
    → e.said ≡ due_at w before m e

-- A correct master says one request for each of its numbers, however often it says it.
abbrev pub RequestsOnce : Type 0
RequestsOnce =
    (w : Setup) (history : List Entry) (m : ℕ) (a b : PoRequest) → is_live w.group ≡ true → IsLegal w history
    → is_correct_master w m ≡ true → HasSaid history m (body.PoRequest a) → HasSaid history m (body.PoRequest b)
    → a.k ≡ b.k → a ≡ b

-- A request that a connected master said in the beginning has its turn with each of them after a round.
abbrev pub TurnsInARound : Type 0
TurnsInARound =
    (w : Setup) (connected : ℕ → Bool) (beginning round : List Entry) → is_live w.group ≡ true
    → IsLegal w (beginning ++ round) → NothingForged w (beginning ++ round) → AreConnected w connected
    → IsRound w connected beginning round
    → ((m : ℕ) → connected m ≡ true → 1 ≤ room w (own (beginning ++ round) m))
    → (j : ℕ) (r : PoRequest) → connected j ≡ true → HasSaid beginning j (body.PoRequest r)
    → (m : ℕ) → connected m ≡ true → has_turn w.group (known_by w (beginning ++ round) m) j r.k ≡ true

-- A request that a connected master said in the beginning, and that has its turn with each of them, is certified with each
-- a round later.
abbrev pub CertifiedInARound : Type 0
CertifiedInARound =
    (w : Setup) (connected : ℕ → Bool) (beginning round : List Entry) → is_live w.group ≡ true
    → IsLegal w (beginning ++ round) → NothingForged w (beginning ++ round) → AreConnected w connected
    → IsRound w connected beginning round
    → ((m : ℕ) → connected m ≡ true → 1 ≤ room w (own (beginning ++ round) m))
    → (j : ℕ) (r : PoRequest) → connected j ≡ true → 1 ≤ r.k → r.k ≤ most_number
    → HasSaid beginning j (body.PoRequest r)
    → ((m : ℕ) → connected m ≡ true → has_turn w.group (known_by w beginning m) j r.k ≡ true)
    → (m : ℕ) → connected m ≡ true → certified w.group (known_by w (beginning ++ round) m) j r.k ≡ Some r.update.body

-- What a connected master requested in the beginning, each of them has certified without a gap two rounds later.
abbrev pub ReachedInTwoRounds : Type 0
ReachedInTwoRounds =
    (w : Setup) (connected : ℕ → Bool) (beginning first second : List Entry) → is_live w.group ≡ true
    → IsLegal w ((beginning ++ first) ++ second) → NothingForged w ((beginning ++ first) ++ second)
    → AreConnected w connected → IsRound w connected beginning first → IsRound w connected (beginning ++ first) second
    → ((m : ℕ) → connected m ≡ true → 1 ≤ room w (own ((beginning ++ first) ++ second) m))
    → (j : ℕ) (r : PoRequest) → connected j ≡ true → HasSaid beginning j (body.PoRequest r)
    → (m : ℕ) → connected m ≡ true → r.k ≤ vector w.group (known_by w ((beginning ++ first) ++ second) m) j

-- What each connected master has certified of master j's requests in the beginning, the latest summaries that each of them
-- knows two rounds later make eligible.
abbrev pub EligibleInTwoRounds : Type 0
EligibleInTwoRounds =
    (w : Setup) (connected : ℕ → Bool) (beginning first second : List Entry) → is_live w.group ≡ true
    → IsLegal w ((beginning ++ first) ++ second) → NothingForged w ((beginning ++ first) ++ second)
    → AreConnected w connected → IsRound w connected beginning first → IsRound w connected (beginning ++ first) second
    → ((m : ℕ) → connected m ≡ true → 1 ≤ room w (own ((beginning ++ first) ++ second) m))
    → 1 ≤ w.group.q → (j k : ℕ) → j < w.group.n → 1 ≤ k
    → ((m : ℕ) → connected m ≡ true → k ≤ vector w.group (known_by w beginning m) j)
    → (m : ℕ) → connected m ≡ true
    → k ≤ eligible w.group (latest_rows w.group (known_by w ((beginning ++ first) ++ second) m)) j

-- So what a connected master requested in the beginning is eligible four rounds later by the latest summaries of each.
abbrev pub EligibleInFourRounds : Type 0
EligibleInFourRounds =
    (w : Setup) (connected : ℕ → Bool) (beginning first second third fourth : List Entry) → is_live w.group ≡ true
    → IsLegal w (then_rounds beginning (first ∷ second ∷ third ∷ fourth ∷ [])) → HasSizes w.group
    → NothingForged w (then_rounds beginning (first ∷ second ∷ third ∷ fourth ∷ []))
    → AreConnected w connected → AreRounds w connected beginning (first ∷ second ∷ third ∷ fourth ∷ [])
    → ((m : ℕ) → connected m ≡ true →
    1 ≤ room w (own (then_rounds beginning (first ∷ second ∷ third ∷ fourth ∷ [])) m))
    → (j : ℕ) (r : PoRequest) → connected j ≡ true → HasSaid beginning j (body.PoRequest r)
    → (m : ℕ) → connected m ≡ true → r.k ≤ eligible w.group
    (latest_rows w.group (known_by w (then_rounds beginning (first ∷ second ∷ third ∷ fourth ∷ [])) m)) j

-- what a master knows at an entry after this history
abbrev pub known_when : Setup → List Entry → ℕ → Entry → List (Signed Body)
known_when w before m e = known_at (heard w before m) (frame_taken e.event)

-- what the leader of the present view counts as offered before a number, by master
abbrev pub counted_before : Group → List (Signed Body) → Plan → ℕ → ℕ → ℕ
counted_before g known plan s =
    reach g (filter_map (counted_rows g (facts_of g known) (view g known) plan) (numbers_from 1 (s - 1)))

-- At a tick the leader of an open view, which has ordered all up to the base of the view's plan, offers the next number with
-- its latest summaries, where that is within its limits; or it counts all that these make eligible as offered.
abbrev pub LeaderOffers : Type 0
LeaderOffers =
    (w : Setup) (history before : List Entry) (e : Entry) (m : ℕ) (plan : Plan) → is_live w.group ≡ true
    → IsLegal w history → is_correct_master w m ≡ true → 1 ≤ room w (own history m)
    → Stands history before e → e.actor ≡ m → e.event ≡ Tick
    → m ≡ leader_of w.group (view w.group (known_when w before m e)) → is_open w.group (known_when w before m e) ≡ true
    → plan_known (facts_of w.group (known_when w before m e)) (view w.group (known_when w before m e)) ≡ Some plan
    → plan.base ≤ gapless w.group (facts_of w.group (known_when w before m e))
    → next_number (said_before (heard w before m)) (view w.group (known_when w before m e)) plan ≤ most_number
    → next_number (said_before (heard w before m)) (view w.group (known_when w before m e)) plan
    ≤ stable w.group (facts_of w.group (known_when w before m e)) + window
    → (exceeds w.group (latest_rows w.group (known_when w before m e)) (counted_before w.group (known_when w before m e) plan
    (next_number (said_before (heard w before m)) (view w.group (known_when w before m e)) plan)) ≡ false)
    ⊎ HasSaid history m (body.PrePrepare record {
      v = view w.group (known_when w before m e);
      s = next_number (said_before (heard w before m)) (view w.group (known_when w before m e)) plan;
      frames = latest_frames w.group (known_when w before m e);
    })

-- What an open view offers as a number, where it is worth it and within the window, a master has prepared by the end of a
-- history that it knows it by.
abbrev pub OfferedIsPrepared : Type 0
OfferedIsPrepared =
    (w : Setup) (history beginning : List Entry) (m v s : ℕ) (rows : List (List ℕ)) → is_live w.group ≡ true
    → IsLegal w history → Begins beginning history → is_correct_master w m ≡ true → 1 ≤ room w (own history m)
    → view w.group (known_by w beginning m) ≡ v → is_open w.group (known_by w beginning m) ≡ true
    → offered (facts_of w.group (known_by w beginning m)) v s ≡ Some rows
    → is_worth w.group (facts_of w.group (known_by w beginning m)) v s ≡ true
    → 1 ≤ s → s ≤ stable w.group (facts_of w.group (known_by w beginning m)) + window
    → HasSaid beginning m (body.Prepare record { v = v; s = s; digest = digest_of_rows rows })

-- What all connected masters prepared in the beginning each of them knows a round later to be prepared by a quorum.
abbrev pub PreparesArrive : Type 0
PreparesArrive =
    (w : Setup) (connected : ℕ → Bool) (beginning round : List Entry) → IsLegal w (beginning ++ round)
    → AreConnected w connected → IsRound w connected beginning round → (v s : ℕ) (digest : List ℕ)
    → ((m : ℕ) → connected m ≡ true → HasSaid beginning m (body.Prepare record { v = v; s = s; digest = digest }))
    → (m : ℕ) → connected m ≡ true
    → is_voted w.group (prepare_by v s digest) (facts_of w.group (known_by w (beginning ++ round) m)) ≡ true

-- What a master knows to be prepared in its present view, within the window, it has committed by then.
abbrev pub PreparedIsCommitted : Type 0
PreparedIsCommitted =
    (w : Setup) (history beginning : List Entry) (m v s : ℕ) (rows : List (List ℕ)) → is_live w.group ≡ true
    → IsLegal w history → Begins beginning history → is_correct_master w m ≡ true → 1 ≤ room w (own history m)
    → view w.group (known_by w beginning m) ≡ v
    → prepared w.group (facts_of w.group (known_by w beginning m)) v s ≡ Some rows
    → 1 ≤ s → s ≤ stable w.group (facts_of w.group (known_by w beginning m)) + window
    → HasSaid beginning m (body.Commit record { v = v; s = s; digest = digest_of_rows rows })

-- And what all committed, to be committed by one.
abbrev pub CommitsArrive : Type 0
CommitsArrive =
    (w : Setup) (connected : ℕ → Bool) (beginning round : List Entry) → IsLegal w (beginning ++ round)
    → AreConnected w connected → IsRound w connected beginning round → (v s : ℕ) (digest : List ℕ)
    → ((m : ℕ) → connected m ≡ true → HasSaid beginning m (body.Commit record { v = v; s = s; digest = digest }))
    → (m : ℕ) → connected m ≡ true
    → is_voted w.group (commit_by v s digest) (facts_of w.group (known_by w (beginning ++ round) m)) ≡ true

-- From the beginning to the end of the whole all connected masters are in view v, which is open to each, and which one
-- of them leads.
pub record HaveLeader (w : Setup) (connected : ℕ → Bool) (v : ℕ) (beginning whole : List Entry) : Type 0 where
  pub leader : connected (leader_of w.group v) ≡ true
  pub came : (m : ℕ) → connected m ≡ true → view w.group (known_by w beginning m) ≡ v
  pub opened : (m : ℕ) → connected m ≡ true → is_open w.group (known_by w beginning m) ≡ true
  pub stayed : (m : ℕ) → connected m ≡ true → view w.group (known_by w whole m) ≡ v

-- what view v takes over, as a master knows it after a history
abbrev pub plan_by : Setup → List Entry → ℕ → ℕ → Plan → Type 0
plan_by w history m v plan = plan_known (facts_of w.group (known_by w history m)) v ≡ Some plan

-- the number that the leader of view v would offer next after a history
abbrev pub next_offer : Setup → List Entry → ℕ → Plan → ℕ
next_offer w history v plan = next_number (said_before (heard w history (leader_of w.group v))) v plan

-- No limit is reached in the whole: each connected master has a leaf left, the door has a number left for its requests,
-- and the numbers that the leader of view v offers there, and one more, are numbers and within the window that each
-- connected master had in the beginning.
pub record HaveRoom (w : Setup) (connected : ℕ → Bool) (v door : ℕ) (beginning whole : List Entry) : Type 0 where
  pub leaves : (m : ℕ) → connected m ≡ true → 1 ≤ room w (own whole m)
  pub requests : last_request (said_before (heard w whole door)) < most_number
  pub numbers : (plan : Plan) → plan_by w beginning (leader_of w.group v) v plan → next_offer w whole v plan ≤ most_number
  pub windows : (m : ℕ) → connected m ≡ true → (plan : Plan) → plan_by w beginning (leader_of w.group v) v plan →
      next_offer w whole v plan ≤ stable w.group (facts_of w.group (known_by w beginning m)) + window

-- No connected master has to be given what others have: in the beginning each has ordered all that its view stands on, and
-- in the end it has certified all that its numbers make eligible.
pub record LackNothing (w : Setup) (connected : ℕ → Bool) (v : ℕ) (beginning whole : List Entry) : Type 0 where
  pub numbers : (m : ℕ) → connected m ≡ true → (plan : Plan) → plan_by w beginning m v plan →
      plan.base ≤ gapless w.group (facts_of w.group (known_by w beginning m))
  pub requests : (m : ℕ) → connected m ≡ true → waiting_for w.group (known_by w whole m) ≡ None

-- how far a door is with a client's updates: as far as it introduced them, or executed them
abbrev pub introduced_to : Setup → List Entry → ℕ → ℕ → ℕ
introduced_to w history door client =
    max (last_introduced (said_before (heard w history door)) client) (updates_of client (executions w history door))

-- A client's update was handed to a connected door: the client said it, after all its earlier updates, with which the
-- door is done, and says no other of its number.
pub record IsHanded (w : Setup) (connected : ℕ → Bool) (door : ℕ) (u : Update) (beginning whole : List Entry) : Type 0 where
  pub is_connected : connected door ≡ true
  pub serves : is_door w.group u.client door ≡ true
  pub said : HasSaid beginning (w.group.n + u.client) (body.Update u)
  pub counted : 1 ≤ u.t
  pub earlier : u.t ≤ introduced_to w beginning door u.client + 1
  pub alone : (other : Update) → HasSaid whole (w.group.n + u.client) (body.Update other) → other.t ≡ u.t → other ≡ u

-- An update that was handed to a connected door, which has numbers left for its requests, is introduced by it within a round,
-- or as many of the client's updates are executed there.
abbrev pub IntroducedInARound : Type 0
IntroducedInARound =
    (w : Setup) (connected : ℕ → Bool) (beginning round : List Entry) → is_live w.group ≡ true
    → IsLegal w (beginning ++ round) → HasSizes w.group → NothingForged w (beginning ++ round)
    → AreConnected w connected → IsRound w connected beginning round
    → (door : ℕ) (u : Update) → 1 ≤ room w (own (beginning ++ round) door)
    → last_request (said_before (heard w (beginning ++ round) door)) < most_number
    → IsHanded w connected door u beginning (beginning ++ round)
    → ((r : PoRequest) × HasSaid (beginning ++ round) door (body.PoRequest r) × (r.update.body ≡ u))
    ⊎ (u.t ≤ updates_of u.client (executions w (beginning ++ round) door))

-- Progress under a correct leader: what a client handed to a connected door stands in the executions of each connected
-- master nine rounds later. It takes one round each for the door to take the update, for all to acknowledge the request,
-- to know the acknowledgements, to sum up, to know the summaries, for the leader to offer a number, and for all to prepare,
-- to commit and to know the commits.
abbrev pub UnderCorrectLeader : Type 0
UnderCorrectLeader =
    (w : Setup) (connected : ℕ → Bool) (beginning : List Entry) (rounds : List (List Entry)) (v door : ℕ) (u : Update)
    → is_live w.group ≡ true → IsSound w (then_rounds beginning rounds) → AreConnected w connected
    → AreRounds w connected beginning rounds → length rounds ≡ 9
    → HaveLeader w connected v beginning (then_rounds beginning rounds)
    → HaveRoom w connected v door beginning (then_rounds beginning rounds)
    → LackNothing w connected v beginning (then_rounds beginning rounds)
    → IsHanded w connected door u beginning (then_rounds beginning rounds)
    → (m : ℕ) → connected m ≡ true → IsIn u (executions w (then_rounds beginning rounds) m)
