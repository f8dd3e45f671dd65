-- Progress under a correct leader, put together: what a client handed to a connected door it has introduced after a round, the
-- view offers after six, and each connected master has ordered after nine, and so executed, as all that its numbers make
-- eligible is certified and the client's earlier updates come before it. Or as many were executed at the door, and what is
-- executed at one is three rounds later executed at each.
use Rattle.std.proofs.Common.{◌≡◌, ℕ, ◌+◌, ◌<◌, ◌≤◌, suc, Bool, true, false, List, [], ◌∷◌, ◌++◌, Option, Some}
use Rattle.std.proofs.Common.{sym, ◌∙◌, ap, subst, inl, inr, ◌⊎◌, arith, append_assoc, append-nil}
use Rattle.std.specs.List.{filter_map}
use Rattle.plain_lists.specs.Lists.{IsIn, Begins}
use Rattle.message_types.specs.declared.signed.Signed.{Signed}
use Rattle.message_types.specs.declared.updates.Update.{Update}
use Rattle.message_types.specs.declared.preordering.PoRequest.{PoRequest}
use Rattle.message_types.specs.declared.views.Plan.{Plan}
use Rattle.message_types.specs.declared.body.Body.{Body}
use Rattle.message_types.specs.declared.body.Body.TheVariants as body
use Rattle.protocol_rules.specs.Group.{Group, is_live, leader_of, most_number, window}
use Rattle.protocol_rules.specs.Facts.{facts_of}
use Rattle.protocol_rules.specs.Matrix.{eligible, reach}
use Rattle.protocol_rules.specs.Order.{ordered, ordered_run, stable}
use Rattle.protocol_rules.specs.Execution.{Request, eligible_requests, certified_run, updates_of, kept_after, executed_of}
use Rattle.protocol_rules.specs.Turns.{last_request}
use Rattle.protocol_rules.specs.Master.{said_before, certified_requests, executed}
use Rattle.history_rules.specs.Events.{Entry, is_silent}
use Rattle.history_rules.specs.Setup.{Setup, room, own}
use Rattle.history_rules.specs.Legal.{Stands, heard, executions}
use Rattle.history_rules.specs.Audit.{HasSaid}
use Rattle.agreement.specs.Laws.{IsSound, known_by}
use Rattle.agreement.proofs.Places.{said_whole, whole_upto}
use Rattle.agreement.proofs.KnownAsItGrows.{known_then}
use Rattle.agreement.proofs.ExecutedInTurn.{InTurn, kept_in_turn, none_in_turn}
use Rattle.agreement.proofs.UpdatesAreTaken.{executed_were_said}
use Rattle.agreement.proofs.VouchedIsOrdered.{executions_grow}
use Rattle.progress.specs.Rounds.{AreConnected, IsRound, AreRounds, then_rounds}
use Rattle.progress.specs.Laws.{HaveLeader, HaveRoom, LackNothing, IsHanded, next_offer, plan_by, UnderCorrectLeader}
use Rattle.progress.specs.UnderLeader.{IsLed, IsOffer}
use Rattle.progress.proofs.Arriving.{known_grows, known_upto}
use Rattle.progress.proofs.Certifying.{below_group}
use Rattle.progress.proofs.Turning.{client_of, number_of}
use Rattle.progress.proofs.Reaching.{left_before, request_number}
use Rattle.progress.proofs.Introducing.{requests_more, updates_grow}
use Rattle.progress.proofs.Introduced.{introduced_in_a_round}
use Rattle.progress.proofs.Plans.{plans_agree}
use Rattle.progress.proofs.Proposed.{said_begun}
use Rattle.progress.proofs.Settled.{sound_before, led_before}
use Rattle.progress.proofs.Worthy.{reach_member, runs_more}
use Rattle.progress.proofs.Ordered.{begins_through, begins_append, stable_later}
use Rattle.progress.proofs.Offers.{said_more, requested_is_offer}
use Rattle.progress.proofs.Spreading.{none_missing, runs_spread, executions_spread}
use Rattle.progress.proofs.OrderedThere.{next_later, order_there, uncons, emptied}
use Rattle.progress.proofs.InOrder.{placed, request, eligible_there, kept_count_more, one_of_each}
use Rattle.progress.proofs.Counted.{counted, executed_as, executed_is, map_begins}

-- what is executed is in turn
executed_in_turn : (g : Group) (known : List (Signed Body)) → InTurn (executed g known)
unfolding executed executed_of
executed_in_turn g known = kept_in_turn [] (certified_run (certified_requests g known)
    (eligible_requests g [] (ordered_run g (facts_of g known)))) none_in_turn

module _ (w : Setup) (connected : ℕ → Bool) (v : ℕ) (plan : Plan)
    (beginning first second third fourth fifth sixth seventh eighth ninth : List Entry)
    (door : ℕ) (u : Update) (live : is_live w.group ≡ true)
    (sound : IsSound w (then_rounds beginning (first ∷ second ∷ third ∷ fourth ∷ fifth ∷ sixth ∷ seventh ∷ eighth ∷ ninth ∷ [])))
    (are : AreConnected w connected)
    (fair : AreRounds w connected beginning (first ∷ second ∷ third ∷ fourth ∷ fifth ∷ sixth ∷ seventh ∷ eighth ∷ ninth ∷ []))
    (led : IsLed w connected v plan beginning (then_rounds beginning (first ∷ second ∷ third ∷ fourth ∷ fifth ∷ sixth ∷ seventh ∷ eighth ∷ ninth ∷ [])))
    (limits : HaveRoom w connected v door beginning (then_rounds beginning (first ∷ second ∷ third ∷ fourth ∷ fifth ∷ sixth ∷ seventh ∷ eighth ∷ ninth ∷ [])))
    (lacks : LackNothing w connected v beginning (then_rounds beginning (first ∷ second ∷ third ∷ fourth ∷ fifth ∷ sixth ∷ seventh ∷ eighth ∷ ninth ∷ [])))
    (h : IsHanded w connected door u beginning (then_rounds beginning (first ∷ second ∷ third ∷ fourth ∷ fifth ∷ sixth ∷ seventh ∷ eighth ∷ ninth ∷ [])))
    (m : ℕ) (is_m : connected m ≡ true) where
  abbrev one : List Entry
  one = beginning ++ first

  abbrev six : List Entry
  six = ((((one ++ second) ++ third) ++ fourth) ++ fifth) ++ sixth

  abbrev nine : List Entry
  nine = ((six ++ seventh) ++ eighth) ++ ninth

  abbrev c : ℕ
  c = u.client

  one_six : Begins one six
  one_six = begins_through (begins_append one second) (begins_through (begins_append (one ++ second) third)
      (begins_through (begins_append ((one ++ second) ++ third) fourth)
      (begins_through (begins_append (((one ++ second) ++ third) ++ fourth) fifth)
      (begins_append ((((one ++ second) ++ third) ++ fourth) ++ fifth) sixth))))

  six_nine : Begins six nine
  six_nine = begins_through (begins_append six seventh) (begins_through (begins_append (six ++ seventh) eighth)
      (begins_append ((six ++ seventh) ++ eighth) ninth))

  one_nine : Begins one nine
  one_nine = begins_through one_six six_nine

  start_one : Begins beginning one
  start_one = begins_append beginning first

  start_six : Begins beginning six
  start_six = begins_through start_one one_six

  -- what holds of the whole holds of its beginnings
  sound_of : (xs : List Entry) → Begins xs nine → IsSound w xs
  sound_of xs b = sound_before w xs b.rest (subst (λ (zs : List Entry). IsSound w zs) b.same sound)

  led_six : IsLed w connected v plan beginning six
  led_six = led_before w connected v plan beginning six six_nine.rest start_six
      (subst (λ (zs : List Entry). IsLed w connected v plan beginning zs) six_nine.same led)

  left_one : 1 ≤ room w (own one door)
  left_one = left_before w one one_nine.rest door (subst (λ (zs : List Entry). 1 ≤ room w (own zs door)) one_nine.same
      (limits.leaves door h.is_connected))

  next_six : next_offer w six v plan ≤ next_offer w nine v plan
  next_six = next_later w v plan six nine six_nine

  -- the numbers offered are within each window from the beginning on
  within : (xs : List Entry) → Begins beginning xs → (i : ℕ) → connected i ≡ true →
      next_offer w nine v plan ≤ stable w.group (facts_of w.group (known_by w xs i)) + window
  within xs b i is_i =
      let at_first : next_offer w nine v plan ≤ stable w.group (facts_of w.group (known_by w beginning i)) + window =
      limits.windows i is_i plan (led.planned (leader_of w.group v) led.leader) in
      let risen : stable w.group (facts_of w.group (known_by w beginning i)) ≤ stable w.group (facts_of w.group (known_by w xs i)) =
      stable_later w i beginning xs b in
      omega (arith, at_first, risen)

  low_six : (i : ℕ) → connected i ≡ true → next_offer w six v plan ≤
      stable w.group (facts_of w.group (known_by w six i)) + window
  low_six i is_i =
      let all : next_offer w nine v plan ≤ stable w.group (facts_of w.group (known_by w six i)) + window =
      within six start_six i is_i in
      let less : next_offer w six v plan ≤ next_offer w nine v plan = next_six in
      omega (arith, all, less)

  most : next_offer w nine v plan ≤ most_number
  most = limits.numbers plan (led.planned (leader_of w.group v) led.leader)

  abbrev fair_seven : IsRound w connected six seventh
  fair_seven = fair.1.1.1.1.1.1.0

  abbrev fair_eight : IsRound w connected (six ++ seventh) eighth
  fair_eight = fair.1.1.1.1.1.1.1.0

  abbrev fair_nine : IsRound w connected ((six ++ seventh) ++ eighth) ninth
  fair_nine = fair.1.1.1.1.1.1.1.1.0

  handed_one : IsHanded w connected door u beginning one
  handed_one = record {
    is_connected = h.is_connected;
    serves = h.serves;
    said = h.said;
    counted = h.counted;
    earlier = h.earlier;
    alone = λ other was number. h.alone other (said_begun one_nine was) number;
  }

  requests_one : last_request (said_before (heard w one door)) < most_number
  requests_one =
      let less : last_request (said_before (heard w one door)) ≤ last_request (said_before (heard w nine door)) =
      requests_more (said_before (heard w one door)) (said_before (heard w nine door)) (λ q k.
      subst (λ (zs : List Entry). IsIn (body.PoRequest q) (said_before (heard w zs door))) (sym one_nine.same)
      (said_more w one one_nine.rest door (body.PoRequest q) k)) in
      let all : last_request (said_before (heard w nine door)) < most_number = limits.requests in
      omega (arith, less, all)

  -- what the door executed by the sixth round each has executed by the ninth
  spread : Begins (executions w six door) (executions w nine m)
  spread = executions_spread w connected v plan beginning six seventh eighth ninth live sound are
      (fair_seven, (fair_eight, (fair_nine, tt))) led start_six low_six door m h.is_connected is_m (lacks.requests m is_m)

  runs_then : (before : List Entry) (e : Entry) → Stands one before e → e.actor ≡ door → is_silent e.event ≡ false →
      Begins (ordered_run w.group (facts_of w.group (known_then w before door e)))
      (ordered_run w.group (facts_of w.group (known_by w nine m)))
  runs_then before e s by loud =
      let upto : List Entry = before ++ e ∷ [] in
      let begins : Begins (before ++ e ∷ []) one = record { rest = s.after; same = whole_upto s } in
      subst (λ (ps : List (Signed Body)). Begins (ordered_run w.group (facts_of w.group ps))
      (ordered_run w.group (facts_of w.group (known_by w nine m)))) (known_upto w before e door by loud)
      (begins_through (runs_more w.group (known_by w upto door) (known_by w six door) (known_grows w six upto door
      (begins_through begins one_six)))
      (runs_spread w connected v plan beginning six seventh eighth ninth live sound are fair_seven fair_eight fair_nine led
      start_six low_six door m h.is_connected is_m))

  -- rows that the view offers after the sixth round, or that the leader had ordered up to the base, are ordered after the ninth
  there_is : (s : ℕ) (rows : List (List ℕ)) → IsOffer w v plan six s rows
      ⊎ ((1 ≤ s) × (s ≤ plan.base) × (ordered w.group (facts_of w.group (known_by w six (leader_of w.group v))) s ≡ Some rows))
      → IsIn rows (ordered_run w.group (facts_of w.group (known_by w nine m)))
  there_is s rows h =
      let next : next_offer w six v plan ≤ next_offer w nine v plan = next_six in
      let all : next_offer w nine v plan ≤ most_number = most in
      order_there w connected v plan beginning six seventh eighth ninth live sound are (fair_seven, (fair_eight, (fair_nine, tt))) led
      start_six (omega (arith, next, all)) low_six m is_m s rows h

  -- a request that the door said in the first round is eligible everywhere after the ninth
  request_eligible : (r : PoRequest) → HasSaid one door (body.PoRequest r) → r.k ≤ reach w.group
      (ordered_run w.group (facts_of w.group (known_by w nine m))) door
  request_eligible r said =
      let all : next_offer w nine v plan ≤ most_number = most in
      let high : next_offer w nine v plan ≤ stable w.group (facts_of w.group (known_by w one (leader_of w.group v))) + window =
      within one start_one (leader_of w.group v) led.leader in
      let next : next_offer w six v plan ≤ next_offer w nine v plan = next_six in
      let found = requested_is_offer w connected v plan beginning one second third fourth fifth sixth live (sound_of six six_nine)
      are (fair.1.0, (fair.1.1.0, (fair.1.1.1.0, (fair.1.1.1.1.0, (fair.1.1.1.1.1.0, tt))))) led_six start_one
      (omega (arith, all, next)) (omega (arith, high, next)) door r h.is_connected said in
      let reached : eligible w.group found.1 door ≤ reach w.group (ordered_run w.group (facts_of w.group (known_by w nine m))) door
      = reach_member w.group (ordered_run w.group (facts_of w.group (known_by w nine m))) found.1 door
      (there_is found.0 found.1 found.3) in
      let enough : r.k ≤ eligible w.group found.1 door = found.2 in
      omega (arith, reached, enough)

  -- so as many of the client's updates are executed
  request_counted : (r : PoRequest) → HasSaid one door (body.PoRequest r) → r.update.body ≡ u →
      u.t ≤ updates_of c (executions w nine m)
  request_counted r said is =
      let known : List (Signed Body) = known_by w nine m in
      let right = are.correct door h.is_connected in
      let runs : List (List (List ℕ)) = ordered_run w.group (facts_of w.group (known_by w nine m)) in
      let d : Request → Option Update = certified_requests w.group (known_by w nine m) in
      let none = none_missing w.group known (lacks.requests m is_m) in
      let number : 1 ≤ r.k = (request_number w one door r live (sound_of one one_nine).legal right said).0 in
      let place = placed (eligible_there w.group [] runs door r.k (below_group w door right) number (request_eligible r said)) in
      let kept : number_of r ≤ updates_of (client_of r) (kept_after [] (filter_map (certified_requests w.group
      (known_by w nine m)) (place.0 ++ request door r.k ∷ []))) = counted w one nine live sound one_nine door
      right left_one m (are.correct m is_m) runs_then none (suc r.k) r said (omega arith) place.0 place.1 place.2 in
      let more : updates_of (client_of r) (kept_after [] (filter_map (certified_requests w.group (known_by w nine m))
      (place.0 ++ request door r.k ∷ []))) ≤ updates_of (client_of r) (kept_after [] (filter_map (certified_requests w.group
      (known_by w nine m)) (eligible_requests w.group [] (ordered_run w.group (facts_of w.group (known_by w nine m)))))) =
      kept_count_more (client_of r) (filter_map d (place.0 ++ request door r.k ∷ []))
      (filter_map d (eligible_requests w.group [] runs)) (map_begins d record {
        rest = place.1;
        same = place.2 ∙ sym (append_assoc place.0 (request door r.k ∷ []) place.1);
      }) in
      let all : executions w nine m ≡ kept_after [] (filter_map d (eligible_requests w.group [] runs)) =
      executed_is w.group known ∙ executed_as w.group d runs none in
      let enough : number_of r ≤ updates_of (client_of r) (executions w nine m) = subst (λ (us : List Update). number_of r ≤
      updates_of (client_of r) us) (sym all) (omega (arith, kept, more)) in
      subst (λ (x : Update). x.t ≤ updates_of x.client (executions w nine m)) is enough

  count_reached : u.t ≤ updates_of c (executions w nine m)
  count_reached = elim (introduced_in_a_round w connected beginning first live (sound_of one one_nine).legal sound.sizes
      (sound_of one one_nine).unforged are fair.0 door u left_one requests_one handed_one) [
        | inl r ↦ request_counted r.0 r.1 r.2
        | inr executed_there ↦
            let first_grown : updates_of c (executions w one door) ≤ updates_of c (executions w six door) = updates_grow c
            (executions w one door) (executions w six door) (executions_grow w six one door one_six) in
            let later_grown : updates_of c (executions w six door) ≤ updates_of c (executions w nine m) = updates_grow c
            (executions w six door) (executions w nine m) spread in
            omega (arith, executed_there, first_grown, later_grown)
      ]

  pub executed_at_each : IsIn u (executions w nine m)
  executed_at_each =
      let found = one_of_each c u.t (executions w nine m) (executed_in_turn w.group (known_by w nine m)) h.counted count_reached in
      let came = executed_were_said w nine m sound.legal sound.sizes sound.unforged (are.correct m is_m) found.0 found.1 in
      let said : HasSaid nine (w.group.n + found.0.client) (body.Update found.0) = said_whole came.0.place came.1 in
      let is : found.0 ≡ u = h.alone found.0 (subst (λ (x : ℕ). HasSaid nine (w.group.n + x) (body.Update found.0)) found.2 said)
      found.3 in
      subst (λ (x : Update). IsIn x (executions w nine m)) is found.1

-- rounds go on, one after the other
pub rounds_begin : (beginning : List Entry) (rounds : List (List Entry)) → Begins beginning (then_rounds beginning rounds)
rounds_begin beginning [] = record { rest = []; same = sym (append-nil beginning) }
rounds_begin beginning (round ∷ rounds) = begins_through (begins_append beginning round) (rounds_begin (beginning ++ round) rounds)

-- the leader's view, with its plan and with room up to the plan's end
led_by : (w : Setup) (connected : ℕ → Bool) (v door : ℕ) (plan : Plan) (beginning whole : List Entry) → Begins beginning whole →
    HaveLeader w connected v beginning whole → HaveRoom w connected v door beginning whole →
    LackNothing w connected v beginning whole → ((m : ℕ) → connected m ≡ true → plan_by w beginning m v plan)
    → IsLed w connected v plan beginning whole
led_by w connected v door plan beginning whole begins have limits lacks planned = record {
  begins = begins;
  leader = have.leader;
  came = have.came;
  opened = have.opened;
  planned = planned;
  based = λ m is_m. lacks.numbers m is_m plan (planned m is_m);
  windows = λ m is_m.
      let all : next_offer w whole v plan ≤ stable w.group (facts_of w.group (known_by w beginning m)) + window =
      limits.windows m is_m plan (planned (leader_of w.group v) have.leader) in
      omega arith;
  leaves = limits.leaves;
  stayed = have.stayed;
}

-- nine rounds, by name
abbrev Claim : Setup → (ℕ → Bool) → List Entry → ℕ → ℕ → Plan → Update → List (List Entry) → Type 0
Claim w connected beginning v door plan u rounds = is_live w.group ≡ true → IsSound w (then_rounds beginning rounds)
    → AreConnected w connected → AreRounds w connected beginning rounds
    → IsLed w connected v plan beginning (then_rounds beginning rounds)
    → HaveRoom w connected v door beginning (then_rounds beginning rounds)
    → LackNothing w connected v beginning (then_rounds beginning rounds)
    → IsHanded w connected door u beginning (then_rounds beginning rounds)
    → (m : ℕ) → connected m ≡ true → IsIn u (executions w (then_rounds beginning rounds) m)

pub under_correct_leader : UnderCorrectLeader
under_correct_leader w connected beginning rounds v door u live sound are fair nine_rounds have limits lacks h m is_m =
    let a = uncons 8 rounds nine_rounds in
    let b = uncons 7 a.1 a.3 in
    let c = uncons 6 b.1 b.3 in
    let d = uncons 5 c.1 c.3 in
    let e = uncons 4 d.1 d.3 in
    let f = uncons 3 e.1 e.3 in
    let g = uncons 2 f.1 f.3 in
    let i = uncons 1 g.1 g.3 in
    let j = uncons 0 i.1 i.3 in
    let cons = λ (x : List Entry) (xs : List (List Entry)). x ∷ xs in
    let all : rounds ≡ a.0 ∷ b.0 ∷ c.0 ∷ d.0 ∷ e.0 ∷ f.0 ∷ g.0 ∷ i.0 ∷ j.0 ∷ [] =
    a.2 ∙ ap (cons a.0) (b.2 ∙ ap (cons b.0) (c.2 ∙ ap (cons c.0) (d.2 ∙ ap (cons d.0) (e.2 ∙ ap (cons e.0) (f.2
    ∙ ap (cons f.0) (g.2 ∙ ap (cons g.0) (i.2 ∙ ap (cons i.0) (j.2 ∙ ap (cons j.0) (emptied j.1 j.3))))))))) in
    let whole : List Entry = then_rounds beginning rounds in
    let begins : Begins beginning (then_rounds beginning rounds) = rounds_begin beginning rounds in
    let agreed = plans_agree w connected v beginning whole live sound are begins have in
    subst (λ (rs : List (List Entry)). Claim w connected beginning v door agreed.0 u rs) (sym all)
    (λ live sound are fair led limits lacks h m is_m. executed_at_each w connected v agreed.0 beginning a.0 b.0 c.0 d.0 e.0 f.0 g.0
    i.0 j.0 door u live sound are fair led limits lacks h m is_m) live sound are fair
    (led_by w connected v door agreed.0 beginning whole begins have limits lacks agreed.1) limits lacks h m is_m
