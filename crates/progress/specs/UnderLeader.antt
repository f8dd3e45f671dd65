-- Progress under the leader of one view: the steps from a request to its execution, each as a law. Each number above the base
-- of the view's plan has the rows that the plan gives to it, or that the leader proposed. (What Prime and PBFT claim of a
-- correct leader; definitions and steps are this project's own.)
use Rattle.std.specs.Prelude.{◌≡◌, ℕ, ◌+◌, ◌-◌, ◌<◌, ◌≤◌, ◌⊎◌, Bool, true, List, [], ◌++◌, ◌∷◌, Some, None, length, slice_get}
use Rattle.plain_lists.specs.Lists.{Begins}
use Rattle.message_types.specs.declared.preordering.PoRequest.{PoRequest}
use Rattle.message_types.specs.declared.ordering.PrePrepare.{PrePrepare}
use Rattle.message_types.specs.declared.views.Plan.{Plan}
use Rattle.message_types.specs.declared.body.Body.TheVariants as body
use Rattle.message_types.specs.Digests.{digest_of_rows}
use Rattle.protocol_rules.specs.Group.{is_live, leader_of, most_number, window}
use Rattle.protocol_rules.specs.Facts.{facts_of}
use Rattle.protocol_rules.specs.Matrix.{rows_of_frames, eligible}
use Rattle.protocol_rules.specs.Order.{gapless, stable, offered, prepared, ordered}
use Rattle.protocol_rules.specs.Views.{view, is_open}
use Rattle.protocol_rules.specs.Worth.{is_worth}
use Rattle.protocol_rules.specs.Master.{waiting_for}
use Rattle.history_rules.specs.Events.{Entry}
use Rattle.history_rules.specs.Setup.{Setup, room, own}
use Rattle.history_rules.specs.Legal.{executions}
use Rattle.history_rules.specs.Audit.{HasSaid}
use Rattle.agreement.specs.Laws.{IsSound, known_by}
use Rattle.progress.specs.Rounds.{AreConnected, IsRound, AreRounds, then_rounds}
use Rattle.progress.specs.Laws.{HaveLeader, plan_by, next_offer}

-- the last number of a plan
abbrev pub end_of : Plan → ℕ
end_of plan = plan.base + length plan.rows

-- From the beginning to the end of the whole view v is led by a connected master. In the beginning each connected master
-- was in it, knew its plan, had ordered all up to the plan's base, and its window reached the plan's end; and in the end it
-- has a leaf left, and hasn't left the view.
pub record IsLed (w : Setup) (connected : ℕ → Bool) (v : ℕ) (plan : Plan) (beginning whole : List Entry) : Type 0 where
  pub begins : Begins beginning whole
  pub leader : connected (leader_of w.group v) ≡ true
  pub came : (m : ℕ) → connected m ≡ true → view w.group (known_by w beginning m) ≡ v
  pub opened : (m : ℕ) → connected m ≡ true → is_open w.group (known_by w beginning m) ≡ true
  pub planned : (m : ℕ) → connected m ≡ true → plan_by w beginning m v plan
  pub based : (m : ℕ) → connected m ≡ true → plan.base ≤ gapless w.group (facts_of w.group (known_by w beginning m))
  pub windows : (m : ℕ) → connected m ≡ true → end_of plan ≤
      stable w.group (facts_of w.group (known_by w beginning m)) + window
  pub leaves : (m : ℕ) → connected m ≡ true → 1 ≤ room w (own whole m)
  pub stayed : (m : ℕ) → connected m ≡ true → view w.group (known_by w whole m) ≡ v

-- The leader of view v proposed these rows as number s.
pub record IsProposed (w : Setup) (v : ℕ) (history : List Entry) (s : ℕ) (rows : List (List ℕ)) : Type 0 where
  pub word : PrePrepare
  pub said : HasSaid history (leader_of w.group v) (body.PrePrepare word)
  pub of_view : word.v ≡ v
  pub numbered : word.s ≡ s
  pub are : rows ≡ rows_of_frames w.group word.frames

-- View v offers these rows as number s: the plan gives them, or beyond it the leader proposed them.
abbrev pub IsOffer : Setup → ℕ → Plan → List Entry → ℕ → List (List ℕ) → Type 0
IsOffer w v plan history s rows = (plan.base < s)
    × (((s ≤ end_of plan) × (slice_get plan.rows (s - plan.base - 1) ≡ Some rows))
    ⊎ ((end_of plan < s) × IsProposed w v history s rows))

-- The connected masters that are in one open view in which one of them leads have one plan.
abbrev pub PlansAgree : Type 0
PlansAgree =
    (w : Setup) (connected : ℕ → Bool) (v : ℕ) (beginning whole : List Entry) → is_live w.group ≡ true → IsSound w whole
    → AreConnected w connected → Begins beginning whole → HaveLeader w connected v beginning whole
    → (plan : Plan) × ((m : ℕ) → connected m ≡ true → plan_by w beginning m v plan)

-- What a connected master's words offer as a number is what the view offers; it offers each lower number above the base too,
-- and each in one way.
abbrev pub OfferedIsOffer : Type 0
OfferedIsOffer =
    (w : Setup) (connected : ℕ → Bool) (v : ℕ) (plan : Plan) (beginning whole : List Entry) → is_live w.group ≡ true
    → IsSound w whole → AreConnected w connected → IsLed w connected v plan beginning whole
    → (m : ℕ) → connected m ≡ true → (s : ℕ) (rows : List (List ℕ))
    → offered (facts_of w.group (known_by w whole m)) v s ≡ Some rows
    → IsOffer w v plan whole s rows × ((other : List (List ℕ)) → IsOffer w v plan whole s other → other ≡ rows)
    × ((r : ℕ) → plan.base < r → r ≤ s → (lower : List (List ℕ)) × IsOffer w v plan whole r lower)

-- What a connected master knows to be prepared in the view as a number, or ordered as one above the plan's base, is what
-- the view offers.
abbrev pub OrderedIsOffer : Type 0
OrderedIsOffer =
    (w : Setup) (connected : ℕ → Bool) (v : ℕ) (plan : Plan) (beginning whole : List Entry) → is_live w.group ≡ true
    → IsSound w whole → AreConnected w connected → IsLed w connected v plan beginning whole
    → (m : ℕ) → connected m ≡ true → (s : ℕ) (rows : List (List ℕ))
    → (prepared w.group (facts_of w.group (known_by w whole m)) v s ≡ Some rows → IsOffer w v plan whole s rows)
    × (plan.base < s → ordered w.group (facts_of w.group (known_by w whole m)) s ≡ Some rows → IsOffer w v plan whole s rows)

-- What the leader proposed before a round each connected master finds offered, and worth a prepare, after it.
abbrev pub ProposedIsWorth : Type 0
ProposedIsWorth =
    (w : Setup) (connected : ℕ → Bool) (v : ℕ) (plan : Plan) (beginning middle round : List Entry) → is_live w.group ≡ true
    → IsSound w (middle ++ round) → AreConnected w connected → IsRound w connected middle round
    → IsLed w connected v plan beginning (middle ++ round) → Begins beginning middle
    → (s : ℕ) (rows : List (List ℕ)) → end_of plan < s → IsProposed w v middle s rows → (m : ℕ) → connected m ≡ true
    → (offered (facts_of w.group (known_by w (middle ++ round) m)) v s ≡ Some rows)
    × (is_worth w.group (facts_of w.group (known_by w (middle ++ round) m)) v s ≡ true)

-- What the view offers before a round, within the window, each connected master has prepared after it.
abbrev pub OfferIsPrepared : Type 0
OfferIsPrepared =
    (w : Setup) (connected : ℕ → Bool) (v : ℕ) (plan : Plan) (beginning middle round : List Entry) → is_live w.group ≡ true
    → IsSound w (middle ++ round) → AreConnected w connected → IsRound w connected middle round
    → IsLed w connected v plan beginning (middle ++ round) → Begins beginning middle
    → (s : ℕ) (rows : List (List ℕ)) → IsOffer w v plan middle s rows → (m : ℕ) → connected m ≡ true
    → s ≤ stable w.group (facts_of w.group (known_by w (middle ++ round) m)) + window
    → HasSaid (middle ++ round) m (body.Prepare record { v = v; s = s; digest = digest_of_rows rows })

-- What the view offers before three rounds, within each window, each connected master has ordered after them, with all
-- lower numbers.
abbrev pub OfferIsOrdered : Type 0
OfferIsOrdered =
    (w : Setup) (connected : ℕ → Bool) (v : ℕ) (plan : Plan) (beginning middle first second third : List Entry)
    → is_live w.group ≡ true → IsSound w (then_rounds middle (first ∷ second ∷ third ∷ [])) → AreConnected w connected
    → AreRounds w connected middle (first ∷ second ∷ third ∷ [])
    → IsLed w connected v plan beginning (then_rounds middle (first ∷ second ∷ third ∷ [])) → Begins beginning middle
    → (s : ℕ) (rows : List (List ℕ)) → IsOffer w v plan middle s rows
    → ((m : ℕ) → connected m ≡ true → s ≤ stable w.group (facts_of w.group (known_by w middle m)) + window)
    → (m : ℕ) → connected m ≡ true
    → (ordered w.group (facts_of w.group (known_by w (then_rounds middle (first ∷ second ∷ third ∷ [])) m)) s ≡ Some rows)
    × (s ≤ most_number → s ≤
    gapless w.group (facts_of w.group (known_by w (then_rounds middle (first ∷ second ∷ third ∷ [])) m)))

-- What a connected master requested the view offers five rounds later in rows that make it eligible, or the leader ordered
-- such up to the plan's base, where no limit is reached.
abbrev pub RequestedIsOffer : Type 0
RequestedIsOffer =
    (w : Setup) (connected : ℕ → Bool) (v : ℕ) (plan : Plan)
    (beginning middle first second third fourth fifth : List Entry) → is_live w.group ≡ true
    → IsSound w (then_rounds middle (first ∷ second ∷ third ∷ fourth ∷ fifth ∷ [])) → AreConnected w connected
    → AreRounds w connected middle (first ∷ second ∷ third ∷ fourth ∷ fifth ∷ [])
    → IsLed w connected v plan beginning (then_rounds middle (first ∷ second ∷ third ∷ fourth ∷ fifth ∷ []))
    → Begins beginning middle
    → next_offer w (then_rounds middle (first ∷ second ∷ third ∷ fourth ∷ fifth ∷ [])) v plan ≤ most_number
    → next_offer w (then_rounds middle (first ∷ second ∷ third ∷ fourth ∷ fifth ∷ [])) v plan
    ≤ stable w.group (facts_of w.group (known_by w middle (leader_of w.group v))) + window
    → (j : ℕ) (r : PoRequest) → connected j ≡ true → HasSaid middle j (body.PoRequest r)
    → (s : ℕ) × (rows : List (List ℕ)) × (r.k ≤ eligible w.group rows j)
    × (IsOffer w v plan (then_rounds middle (first ∷ second ∷ third ∷ fourth ∷ fifth ∷ [])) s rows
    ⊎ ((1 ≤ s) × (s ≤ plan.base) × (ordered w.group (facts_of w.group (known_by w
    (then_rounds middle (first ∷ second ∷ third ∷ fourth ∷ fifth ∷ [])) (leader_of w.group v))) s ≡ Some rows)))

-- What a connected master executed before three rounds each one that has certified all that its numbers make eligible has
-- executed after them.
abbrev pub ExecutionsSpread : Type 0
ExecutionsSpread =
    (w : Setup) (connected : ℕ → Bool) (v : ℕ) (plan : Plan) (beginning middle first second third : List Entry)
    → is_live w.group ≡ true → IsSound w (then_rounds middle (first ∷ second ∷ third ∷ [])) → AreConnected w connected
    → AreRounds w connected middle (first ∷ second ∷ third ∷ [])
    → IsLed w connected v plan beginning (then_rounds middle (first ∷ second ∷ third ∷ [])) → Begins beginning middle
    → ((m : ℕ) → connected m ≡ true → next_offer w middle v plan ≤
    stable w.group (facts_of w.group (known_by w middle m)) + window)
    → (i m : ℕ) → connected i ≡ true → connected m ≡ true
    → waiting_for w.group (known_by w (then_rounds middle (first ∷ second ∷ third ∷ [])) m) ≡ None
    → Begins (executions w middle i) (executions w (then_rounds middle (first ∷ second ∷ third ∷ [])) m)
