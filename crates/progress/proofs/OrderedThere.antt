-- Rows that a view offers, or that its leader had ordered up to the plan's base, are three rounds later among those that each
-- connected master has ordered without a gap. So what all have certified each has ordered six rounds later: after two the
-- leader's latest summaries make it eligible, at its tick in the third it offers these, or counts as much as offered.
use Rattle.std.proofs.Common.{◌≡◌, ℕ, ◌+◌, ◌*◌, ◌<◌, ◌≤◌, zero, suc, Bool, true, List, [], ◌∷◌, ◌++◌, Option, Some, None, length}
use Rattle.std.proofs.Common.{refl, sym, ◌∙◌, ap, subst, inl, inr, ◌⊎◌, arith, append_assoc}
use Rattle.std.proofs.lemmas.Bool.{cases_lt}
use Rattle.plain_lists.specs.Lists.{IsIn, here, there, Begins}
use Rattle.plain_lists.proofs.Members.{some_same}
use Rattle.message_types.specs.declared.signed.Signed.{Signed}
use Rattle.message_types.specs.declared.views.Plan.{Plan}
use Rattle.message_types.specs.declared.body.Body.{Body}
use Rattle.protocol_rules.specs.Words.{run_from}
use Rattle.protocol_rules.specs.Group.{Group, is_live, leader_of, most_number, window}
use Rattle.protocol_rules.specs.Facts.{facts_of}
use Rattle.protocol_rules.specs.Matrix.{eligible, reach}
use Rattle.protocol_rules.specs.Order.{ordered, ordered_run, gapless, stable}
use Rattle.protocol_rules.specs.Preorder.{vector}
use Rattle.protocol_rules.specs.Master.{said_before, latest_rows}
use Rattle.history_rules.specs.Events.{Entry}
use Rattle.history_rules.specs.Setup.{Setup, room, own}
use Rattle.history_rules.specs.Legal.{heard}
use Rattle.agreement.specs.Laws.{IsSound, known_by}
use Rattle.agreement.proofs.Places.{whole_upto}
use Rattle.agreement.proofs.KnownAsItGrows.{known_then}
use Rattle.agreement.proofs.ExecutionsAgree.{ordered_agree}
use Rattle.progress.specs.Rounds.{AreConnected, HasTick, AreRounds, then_rounds}
use Rattle.progress.specs.Laws.{next_offer}
use Rattle.progress.specs.UnderLeader.{IsLed, IsOffer}
use Rattle.progress.specs.Serving.{ordered_to}
use Rattle.progress.specs.Keeping.{CertifiedIsOrdered}
use Rattle.progress.proofs.Arriving.{known_grows, known_upto, tick_loud, stands_in_round}
use Rattle.progress.proofs.Reaching.{left_before}
use Rattle.progress.proofs.Eligible.{eligible_in_two_rounds}
use Rattle.progress.proofs.Settled.{sound_before, led_before}
use Rattle.progress.proofs.Worthy.{reach_member, ordered_upto, gapless_more}
use Rattle.progress.proofs.Ordered.{begins_through, begins_append, stable_later, ordered_kept, offer_is_ordered}
use Rattle.progress.proofs.Offers.{Reaches, round_longer, next_more, said_more, offers}
use Rattle.progress.proofs.Spreading.{below_next}

-- a run holds what is given of the numbers within it
run_holds : {X : Type 0} (f : ℕ → Option X) (start most s : ℕ) (x : X) → start ≤ s → s < start + length (run_from f start most) →
    f s ≡ Some x → IsIn x (run_from f start most)
unfolding run_from
run_holds f start zero s x low high e = absurd (omega arith)
run_holds {X} f start (suc most) s x low high e = by (f start) refl high (λ above below. run_holds f (suc start) most s x above below e)
  where
    by : (o : Option X) → f start ≡ o
        → s < start + length {A = X} (elim o [ None ↦ [] | Some y ↦ y ∷ run_from f (suc start) most ])
        → (suc start ≤ s → s < suc start + length (run_from f (suc start) most) → IsIn x (run_from f (suc start) most))
        → IsIn x (elim o as (λ _. List X) [ None ↦ [] | Some y ↦ y ∷ run_from f (suc start) most ])
    by None is high later = absurd (omega arith)
    by (Some y) is high later = elim (cases_lt start s) [
      | inl above ↦ there y (run_from f (suc start) most) (later above (omega arith))
      | inr le ↦
          let same : start ≡ s = omega arith in
          subst (λ (z : X). IsIn x (z ∷ run_from f (suc start) most)) (some_same (sym e ∙ ap f (sym same) ∙ is))
          (here (run_from f (suc start) most))
    ]

ordered_among : (g : Group) (known : List (Signed Body)) (s : ℕ) (rows : List (List ℕ)) → 1 ≤ s → s ≤ gapless g (facts_of g known)
    → ordered g (facts_of g known) s ≡ Some rows → IsIn rows (ordered_run g (facts_of g known))
unfolding ordered_run
ordered_among g known s rows one low e = run_holds (ordered g (facts_of g known)) 1 most_number s rows one (omega arith) e

-- the next number only rises
pub next_later : (w : Setup) (v : ℕ) (plan : Plan) (before whole : List Entry) → Begins before whole →
    next_offer w before v plan ≤ next_offer w whole v plan
next_later w v plan before whole b = next_more v plan (said_before (heard w before (leader_of w.group v)))
    (said_before (heard w whole (leader_of w.group v))) (λ x k. subst (λ (zs : List Entry). IsIn x
    (said_before (heard w zs (leader_of w.group v)))) (sym b.same) (said_more w before b.rest (leader_of w.group v) x k))

module _ (w : Setup) (connected : ℕ → Bool) (v : ℕ) (plan : Plan) (beginning middle first second third : List Entry)
    (live : is_live w.group ≡ true) (sound : IsSound w (then_rounds middle (first ∷ second ∷ third ∷ [])))
    (are : AreConnected w connected) (fair : AreRounds w connected middle (first ∷ second ∷ third ∷ []))
    (led : IsLed w connected v plan beginning (then_rounds middle (first ∷ second ∷ third ∷ [])))
    (begun : Begins beginning middle) (most : next_offer w middle v plan ≤ most_number)
    (low : (i : ℕ) → connected i ≡ true → next_offer w middle v plan ≤
    stable w.group (facts_of w.group (known_by w middle i)) + window) (m : ℕ) (is_m : connected m ≡ true) where
  abbrev three : List Entry
  three = ((middle ++ first) ++ second) ++ third

  middle_three : Begins middle three
  middle_three = begins_through (begins_append middle first) (begins_through (begins_append (middle ++ first) second)
      (begins_append ((middle ++ first) ++ second) third))

  sound_middle : IsSound w middle
  sound_middle = sound_before w middle middle_three.rest (subst (λ (zs : List Entry). IsSound w zs) middle_three.same sound)

  led_middle : IsLed w connected v plan beginning middle
  led_middle = led_before w connected v plan beginning middle middle_three.rest begun
      (subst (λ (zs : List Entry). IsLed w connected v plan beginning zs) middle_three.same led)

  -- rows that the view offers, or that the leader had ordered up to the base, are ordered three rounds later
  pub order_there : (s : ℕ) (rows : List (List ℕ)) → IsOffer w v plan middle s rows
      ⊎ ((1 ≤ s) × (s ≤ plan.base) × (ordered w.group (facts_of w.group (known_by w middle (leader_of w.group v))) s ≡ Some rows))
      → IsIn rows (ordered_run w.group (facts_of w.group (known_by w (((middle ++ first) ++ second) ++ third) m)))
  order_there s rows (inl offer) =
      let below : s < next_offer w middle v plan = below_next w connected v plan beginning middle sound_middle.legal are
      led_middle s rows offer in
      let above : plan.base < s = offer.0 in
      let all : next_offer w middle v plan ≤ most_number = most in
      let order = offer_is_ordered w connected v plan beginning middle first second third live sound are fair led begun s rows offer
      (λ i is_i.
      let room_there : next_offer w middle v plan ≤ stable w.group (facts_of w.group (known_by w middle i)) + window = low i is_i in
      omega (arith, room_there, below)) m is_m in
      ordered_among w.group (known_by w three m) s rows (omega (arith, above)) (order.1 (omega (arith, below, all))) order.0
  order_there s rows (inr based) =
      let base : plan.base ≤ gapless w.group (facts_of w.group (known_by w beginning m)) = led.based m is_m in
      let under : s ≤ plan.base = based.1 in
      let grown : gapless w.group (facts_of w.group (known_by w beginning m)) ≤ gapless w.group (facts_of w.group (known_by w three m))
      = gapless_more w.group (known_by w beginning m) (known_by w three m) (known_grows w three beginning m led.begins) in
      let was = ordered_upto w.group (facts_of w.group (known_by w beginning m)) s based.0 (omega (arith, under, base)) in
      let same : was.0 ≡ rows = ordered_agree w three beginning middle m (leader_of w.group v) sound led.begins middle_three
      (are.correct m is_m) (are.correct (leader_of w.group v) led.leader) s was.0 rows was.1 based.2 in
      ordered_among w.group (known_by w three m) s rows based.0 (omega (arith, under, base, grown))
      (ordered_kept w m beginning three led.begins s rows (was.1 ∙ ap (λ (x : List (List ℕ)). Some x) same))

-- a list of so many has a first
pub uncons : {X : Type 0} (n : ℕ) (xs : List X) → length xs ≡ suc n → (x : X) × (rest : List X) × (xs ≡ x ∷ rest) × (length rest ≡ n)
uncons n [] e = absurd (omega arith)
uncons n (x ∷ rest) e = (x, rest, refl, omega arith)

pub emptied : {X : Type 0} (xs : List X) → length xs ≡ 0 → xs ≡ []
emptied [] e = refl
emptied (x ∷ xs) e = absurd (omega arith)

module _ (w : Setup) (connected : ℕ → Bool) (v : ℕ) (plan : Plan)
    (beginning middle first second third fourth fifth sixth : List Entry) (live : is_live w.group ≡ true)
    (sound : IsSound w (then_rounds middle (first ∷ second ∷ third ∷ fourth ∷ fifth ∷ sixth ∷ [])))
    (are : AreConnected w connected)
    (fair : AreRounds w connected middle (first ∷ second ∷ third ∷ fourth ∷ fifth ∷ sixth ∷ []))
    (led : IsLed w connected v plan beginning (then_rounds middle (first ∷ second ∷ third ∷ fourth ∷ fifth ∷ sixth ∷ [])))
    (begun : Begins beginning middle)
    (numbers : next_offer w (then_rounds middle (first ∷ second ∷ third ∷ fourth ∷ fifth ∷ sixth ∷ [])) v plan ≤ most_number)
    (windows : (m : ℕ) → connected m ≡ true → next_offer w (then_rounds middle
    (first ∷ second ∷ third ∷ fourth ∷ fifth ∷ sixth ∷ [])) v plan ≤ stable w.group (facts_of w.group (known_by w middle m)) + window)
    (j k : ℕ) (low : j < w.group.n) (one : 1 ≤ k)
    (certified : (m : ℕ) → connected m ≡ true → k ≤ vector w.group (known_by w middle m) j) where
  abbrev two : List Entry
  two = (middle ++ first) ++ second

  abbrev upto_three : List Entry
  upto_three = two ++ third

  abbrev six : List Entry
  six = ((upto_three ++ fourth) ++ fifth) ++ sixth

  middle_two : Begins middle two
  middle_two = begins_through (begins_append middle first) (begins_append (middle ++ first) second)

  middle_first : Begins middle upto_three
  middle_first = begins_through middle_two (begins_append two third)

  three_six : Begins upto_three six
  three_six = begins_through (begins_append upto_three fourth) (begins_through (begins_append (upto_three ++ fourth) fifth)
      (begins_append ((upto_three ++ fourth) ++ fifth) sixth))

  sound_three : IsSound w upto_three
  sound_three = sound_before w upto_three three_six.rest (subst (λ (zs : List Entry). IsSound w zs) three_six.same sound)

  led_three : IsLed w connected v plan beginning upto_three
  led_three = led_before w connected v plan beginning upto_three three_six.rest (begins_through begun middle_first)
      (subst (λ (zs : List Entry). IsLed w connected v plan beginning zs) three_six.same led)

  next_three : next_offer w upto_three v plan ≤ next_offer w six v plan
  next_three = next_later w v plan upto_three six three_six

  -- at its tick in the third round the leader's summaries make it eligible, and so it is offered
  offered_three : Reaches w v plan upto_three j k
  offered_three =
      let leader : ℕ = leader_of w.group v in
      let t : HasTick third (leader_of w.group v) = fair.1.1.0.ticks leader led.leader in
      let place = stands_in_round two t.place in
      let more : List Entry = t.before ++ t.entry ∷ [] in
      let upto : List Entry = (two ++ t.before) ++ t.entry ∷ [] in
      let same : upto ≡ (middle ++ first) ++ (second ++ more) = append_assoc two t.before (t.entry ∷ [])
      ∙ append_assoc (middle ++ first) second more in
      let sound_upto : IsSound w upto = sound_before w upto place.after
      (subst (λ (xs : List Entry). IsSound w xs) (whole_upto place) sound_three) in
      let sound_there : IsSound w ((middle ++ first) ++ (second ++ more)) = subst (λ (xs : List Entry). IsSound w xs) same sound_upto in
      let quorum : w.group.q ≡ 2 * w.group.f + w.group.k + 1 = sound.sizes.quorum in
      let reached : k ≤ eligible w.group (latest_rows w.group (known_by w ((middle ++ first) ++ (second ++ more)) leader)) j =
      eligible_in_two_rounds w connected middle first (second ++ more) live sound_there.legal sound_there.unforged are fair.0
      (round_longer w connected (middle ++ first) second more fair.1.0) (λ m is_m.
      subst (λ (xs : List Entry). 1 ≤ room w (own xs m)) same (left_before w upto place.after m
      (subst (λ (xs : List Entry). 1 ≤ room w (own xs m)) (whole_upto place) (led_three.leaves m is_m))))
      (omega (arith, quorum)) j k low one certified leader led.leader in
      let known : known_by w ((middle ++ first) ++ (second ++ more)) leader ≡ known_then w (two ++ t.before) leader t.entry =
      ap (λ (xs : List Entry). known_by w xs leader) (sym same)
      ∙ known_upto w (two ++ t.before) t.entry leader t.by (tick_loud t.entry.event t.tick) in
      let next : next_offer w upto_three v plan ≤ next_offer w six v plan = next_three in
      let all : next_offer w six v plan ≤ most_number = numbers in
      let high : next_offer w six v plan ≤ stable w.group (facts_of w.group (known_by w middle (leader_of w.group v))) + window =
      windows leader led.leader in
      offers w connected v plan beginning middle two third live sound_three are led_three (omega (arith, next, all))
      (omega (arith, next, high)) t begun (begins_through middle_two (begins_append two t.before)) j k low one
      (subst (λ (ps : List (Signed Body)). k ≤ eligible w.group (latest_rows w.group ps) j) known reached)

  ordered_six : (m : ℕ) → connected m ≡ true → k ≤ ordered_to w six m j
  ordered_six m is_m =
      let next : next_offer w upto_three v plan ≤ next_offer w six v plan = next_three in
      let all : next_offer w six v plan ≤ most_number = numbers in
      let found = offered_three in
      let among : IsIn found.1 (ordered_run w.group (facts_of w.group (known_by w six m))) = order_there w connected v plan beginning
      upto_three fourth fifth sixth live sound are (fair.1.1.1.0, (fair.1.1.1.1.0, (fair.1.1.1.1.1.0, tt))) led
      (begins_through begun middle_first) (omega (arith, next, all)) (λ i is_i.
      let high : next_offer w six v plan ≤ stable w.group (facts_of w.group (known_by w middle i)) + window = windows i is_i in
      let risen : stable w.group (facts_of w.group (known_by w middle i)) ≤
      stable w.group (facts_of w.group (known_by w upto_three i)) = stable_later w i middle upto_three middle_first in
      omega (arith, next, high, risen)) m is_m found.0 found.1 found.3 in
      let reached : eligible w.group found.1 j ≤ reach w.group (ordered_run w.group (facts_of w.group (known_by w six m))) j =
      reach_member w.group (ordered_run w.group (facts_of w.group (known_by w six m))) found.1 j among in
      let enough : k ≤ eligible w.group found.1 j = found.2 in
      omega (arith, reached, enough)

-- six rounds, by name
abbrev SixClaim : Setup → (ℕ → Bool) → ℕ → Plan → List Entry → List Entry → ℕ → ℕ → List (List Entry) → Type 0
SixClaim w connected v plan beginning middle j k rounds = IsSound w (then_rounds middle rounds)
    → AreRounds w connected middle rounds → IsLed w connected v plan beginning (then_rounds middle rounds)
    → next_offer w (then_rounds middle rounds) v plan ≤ most_number
    → ((m : ℕ) → connected m ≡ true → next_offer w (then_rounds middle rounds) v plan
    ≤ stable w.group (facts_of w.group (known_by w middle m)) + window)
    → (m : ℕ) → connected m ≡ true → k ≤ ordered_to w (then_rounds middle rounds) m j

pub certified_is_ordered : CertifiedIsOrdered
certified_is_ordered w connected v plan beginning middle rounds live sound are fair six_rounds led begun numbers windows j k low one
    certified m is_m =
    let a = uncons 5 rounds six_rounds in
    let b = uncons 4 a.1 a.3 in
    let c = uncons 3 b.1 b.3 in
    let d = uncons 2 c.1 c.3 in
    let e = uncons 1 d.1 d.3 in
    let f = uncons 0 e.1 e.3 in
    let cons = λ (x : List Entry) (xs : List (List Entry)). x ∷ xs in
    let all : rounds ≡ a.0 ∷ b.0 ∷ c.0 ∷ d.0 ∷ e.0 ∷ f.0 ∷ [] = a.2 ∙ ap (cons a.0) (b.2 ∙ ap (cons b.0) (c.2
    ∙ ap (cons c.0) (d.2 ∙ ap (cons d.0) (e.2 ∙ ap (cons e.0) (f.2 ∙ ap (cons f.0) (emptied f.1 f.3)))))) in
    subst (λ (rs : List (List Entry)). SixClaim w connected v plan beginning middle j k rs) (sym all)
    (λ sound fair led numbers windows m is_m. ordered_six w connected v plan beginning middle a.0 b.0 c.0 d.0 e.0 f.0 live sound are
    fair led begun numbers windows j k low one certified m is_m) sound fair led numbers windows m is_m
