-- What a connected master has ordered each has ordered three rounds later: up to the base of the plan it had, and above it is
-- what the view offers. And where it has certified all that its numbers make eligible, it has executed what the other one had.
use Rattle.std.proofs.Common.{◌≡◌, ℕ, ◌+◌, ◌<◌, ◌≤◌, zero, suc, Bool, true, List, [], ◌∷◌, ◌++◌, Option, Some, None}
use Rattle.std.proofs.Common.{refl, sym, ◌∙◌, ap, subst, inl, inr, arith, append-nil}
use Rattle.std.proofs.lemmas.Bool.{cases_lt}
use Rattle.std.specs.List.{filter_map}
use Rattle.plain_lists.specs.Lists.{IsIn, Begins}
use Rattle.plain_lists.proofs.Members.{in_filter_map, some_same, none_some}
use Rattle.message_types.specs.declared.signed.Signed.{Signed}
use Rattle.message_types.specs.declared.updates.Update.{Update}
use Rattle.message_types.specs.declared.views.Plan.{Plan}
use Rattle.message_types.specs.declared.body.Body.{Body}
use Rattle.message_types.specs.declared.body.Body.TheVariants as body
use Rattle.protocol_rules.specs.Words.{greatest_of, or_else, run_from}
use Rattle.protocol_rules.specs.Group.{Group, is_live, leader_of, most_number, window}
use Rattle.protocol_rules.specs.Facts.{facts_of}
use Rattle.protocol_rules.specs.Order.{ordered, ordered_run, gapless, stable}
use Rattle.protocol_rules.specs.Execution.{Request, eligible_requests, certified_run, first_missing, kept_after, executed_of, waiting_of}
use Rattle.protocol_rules.specs.Master.{said_before, certified_requests, executed, waiting_for, offered_number}
use Rattle.history_rules.specs.Events.{Entry}
use Rattle.history_rules.specs.Setup.{Setup}
use Rattle.history_rules.specs.Legal.{IsLegal, heard}
use Rattle.agreement.specs.Laws.{IsSound, known_by}
use Rattle.agreement.proofs.KnownAsItGrows.{known_of_within, said_earlier, correct_said}
use Rattle.agreement.proofs.ExecutedInTurn.{executed_grow}
use Rattle.agreement.proofs.ExecutionsAgree.{certified_agree, ordered_agree}
use Rattle.agreement.proofs.PlannedRows.{greatest_above}
use Rattle.progress.specs.Rounds.{AreConnected, IsRound}
use Rattle.progress.specs.Laws.{next_offer}
use Rattle.progress.specs.UnderLeader.{IsLed, IsProposed, IsOffer, end_of, ExecutionsSpread}
use Rattle.progress.proofs.Proposed.{offers_number}
use Rattle.progress.proofs.Settled.{sound_before, led_before, ordered_offer}
use Rattle.progress.proofs.Worthy.{ordered_upto}
use Rattle.progress.proofs.Ordered.{begins_through, begins_append, ordered_kept, offer_is_ordered}

-- what the view offers is below the number that its leader would offer next
pub below_next : (w : Setup) (connected : ℕ → Bool) (v : ℕ) (plan : Plan) (beginning history : List Entry) → IsLegal w history →
    AreConnected w connected → IsLed w connected v plan beginning history → (s : ℕ) (rows : List (List ℕ)) →
    IsOffer w v plan history s rows → s < next_offer w history v plan
below_next w connected v plan beginning history legal are led s rows (above, inl planned) =
    let low : s ≤ end_of plan = planned.0 in omega arith
below_next w connected v plan beginning history legal are led s rows (above, inr beyond) =
    let leader : ℕ = leader_of w.group v in
    let is : IsProposed w v history s rows = beyond.1 in
    let loud = (correct_said w leader (body.PrePrepare is.word) legal is.said.place is.said.by
    (are.correct leader led.leader) is.said.among).0 in
    let among : IsIn (body.PrePrepare is.word) (said_before (heard w history (leader_of w.group v))) = said_earlier w leader
    (body.PrePrepare is.word) is.said.place is.said.by loud is.said.among in
    let high : s ≤ greatest_of (filter_map (offered_number v) (said_before (heard w history (leader_of w.group v)))) =
    greatest_above s (filter_map (offered_number v) (said_before (heard w history leader)))
    (in_filter_map (offered_number v) among (offers_number is.word v s is.of_view is.numbered)) in
    omega (arith, high)

-- runs of which one has all that the other has, from their first number on
runs_from : {X : Type 0} (f h : ℕ → Option X) (start most : ℕ) →
    ((n : ℕ) (x : X) → start ≤ n → f n ≡ Some x → h n ≡ Some x) → Begins (run_from f start most) (run_from h start most)
unfolding run_from
runs_from f h start zero same = record { rest = []; same = refl }
runs_from {X} f h start (suc most) same = by_first (f start) refl
    (runs_from f h (suc start) most (λ n x low e. same n x (omega arith) e))
  where
    found : (x : X) (p : Option X) → p ≡ Some x → Begins (run_from f (suc start) most) (run_from h (suc start) most)
        → Begins {X = X} (x ∷ run_from f (suc start) most)
        (elim p [ None ↦ [] | Some y ↦ y ∷ run_from h (suc start) most ])
    found x None e deeper = absurd (none_some e)
    found x (Some y) e deeper = record {
      rest = deeper.rest;
      same = ap (λ (z : X). z ∷ run_from h (suc start) most) (some_same e) ∙ ap (λ (zs : List X). x ∷ zs) deeper.same;
    }

    by_first : (o : Option X) → f start ≡ o → Begins (run_from f (suc start) most) (run_from h (suc start) most)
        → Begins {X = X} (elim o [ None ↦ [] | Some x ↦ x ∷ run_from f (suc start) most ])
        (elim (h start) [ None ↦ [] | Some y ↦ y ∷ run_from h (suc start) most ])
    by_first None e deeper = record { rest = _; same = refl }
    by_first (Some x) e deeper = found x (h start) (same start x (omega arith) e) deeper

-- where all is certified by one, what another has certified alike changes nothing
run_or : (c d : Request → Option Update) (xs : List Request) → first_missing d xs ≡ None →
    certified_run (λ r. or_else (d r) (c r)) xs ≡ certified_run d xs
unfolding certified_run first_missing
run_or c d [] e = refl
run_or c d (r ∷ xs) e = by (d r) e (run_or c d xs)
  where
    by : (o : Option Update) → ◌≡◌ {A = Option Request} (elim o [ None ↦ Some r | Some u ↦ first_missing d xs ]) None
        → (first_missing d xs ≡ None → certified_run (λ r. or_else (d r) (c r)) xs ≡ certified_run d xs)
        → ◌≡◌ {A = List Update} (elim (or_else o (c r))
        [ None ↦ [] | Some u ↦ u ∷ certified_run (λ r. or_else (d r) (c r)) xs ])
        (elim o [ None ↦ [] | Some u ↦ u ∷ certified_run d xs ])
    by None e later = absurd (none_some (sym e))
    by (Some u) e later = ap (λ (us : List Update). u ∷ us) (later e)

-- What is executed by one order and its certificates begins what is by a longer one, all of whose requests are certified alike.
pub executed_whole : (g : Group) (c d : Request → Option Update) →
    ((r : Request) (u v : Update) → c r ≡ Some u → d r ≡ Some v → u ≡ v) → (xs ys : List (List (List ℕ))) → Begins xs ys
    → first_missing d (eligible_requests g [] ys) ≡ None → Begins (executed_of g c xs) (executed_of g d ys)
unfolding executed_of
executed_whole g c d same xs ys b none =
    subst (λ (us : List Update). Begins (executed_of g c xs) (kept_after [] us)) (run_or c d (eligible_requests g [] ys) none)
    (executed_grow g c (λ r. or_else (d r) (c r)) (λ r u e. by (d r) refl e) xs ys b)
  where
    by : {r : Request} {u : Update} (o : Option Update) → d r ≡ o → c r ≡ Some u → or_else o (c r) ≡ Some u
    by None is e = e
    by {r} {u} (Some v) is e = ap (λ (x : Update). Some x) (sym (same r u v e is))

-- nothing is waited for where all is certified
pub none_missing : (g : Group) (known : List (Signed Body)) → waiting_for g known ≡ None →
    first_missing (certified_requests g known) (eligible_requests g [] (ordered_run g (facts_of g known))) ≡ None
unfolding waiting_of
none_missing g known e = e

pub executed_spread : (g : Group) (known more : List (Signed Body)) →
    ((r : Request) (u v : Update) → certified_requests g known r ≡ Some u → certified_requests g more r ≡ Some v → u ≡ v)
    → Begins (ordered_run g (facts_of g known)) (ordered_run g (facts_of g more)) → waiting_for g more ≡ None
    → Begins (executed g known) (executed g more)
unfolding executed
executed_spread g known more same runs none = executed_whole g (certified_requests g known) (certified_requests g more) same
    (ordered_run g (facts_of g known)) (ordered_run g (facts_of g more)) runs (none_missing g more none)

module _ (w : Setup) (connected : ℕ → Bool) (v : ℕ) (plan : Plan) (beginning middle first second third : List Entry)
    (live : is_live w.group ≡ true)
    (sound : IsSound w (((middle ++ first) ++ second) ++ third)) (are : AreConnected w connected)
    (fair_one : IsRound w connected middle first) (fair_two : IsRound w connected (middle ++ first) second)
    (fair_three : IsRound w connected ((middle ++ first) ++ second) third)
    (led : IsLed w connected v plan beginning (((middle ++ first) ++ second) ++ third)) (begun : Begins beginning middle)
    (low : (m : ℕ) → connected m ≡ true → next_offer w middle v plan ≤
    stable w.group (facts_of w.group (known_by w middle m)) + window) where
  abbrev three : List Entry
  three = ((middle ++ first) ++ second) ++ third

  middle_three : Begins middle three
  middle_three = begins_through (begins_append middle first) (begins_through (begins_append (middle ++ first) second)
      (begins_append ((middle ++ first) ++ second) third))

  sound_middle : IsSound w middle
  sound_middle = sound_before w middle middle_three.rest (subst (λ (xs : List Entry). IsSound w xs) middle_three.same sound)

  led_middle : IsLed w connected v plan beginning middle
  led_middle = led_before w connected v plan beginning middle middle_three.rest begun
      (subst (λ (xs : List Entry). IsLed w connected v plan beginning xs) middle_three.same led)

  whole_three : Begins three three
  whole_three = record { rest = []; same = sym (append-nil three) }

  -- what one has ordered each has ordered
  order_spread : (i m : ℕ) → connected i ≡ true → connected m ≡ true → (s : ℕ) (rows : List (List ℕ)) → 1 ≤ s
      → ordered w.group (facts_of w.group (known_by w middle i)) s ≡ Some rows
      → ordered w.group (facts_of w.group (known_by w (((middle ++ first) ++ second) ++ third) m)) s ≡ Some rows
  order_spread i m is_i is_m s rows one e = elim (cases_lt plan.base s) [
    | inl above ↦
        let offer : IsOffer w v plan middle s rows = ordered_offer w connected v plan beginning middle live sound_middle are
        led_middle i is_i (known_by w middle i) (known_of_within (heard w middle i)) s rows above e in
        let below : s < next_offer w middle v plan = below_next w connected v plan beginning middle sound_middle.legal are
        led_middle s rows offer in
        (offer_is_ordered w connected v plan beginning middle first second third live sound are
        (fair_one, (fair_two, (fair_three, tt))) led begun s rows offer (λ k is_k.
        let high : next_offer w middle v plan ≤ stable w.group (facts_of w.group (known_by w middle k)) + window = low k is_k in
        omega (arith, high, below)) m is_m).0
    | inr within ↦
        let base : plan.base ≤ gapless w.group (facts_of w.group (known_by w beginning m)) = led.based m is_m in
        let own = ordered_upto w.group (facts_of w.group (known_by w beginning m)) s one (omega (arith, within, base)) in
        let same : own.0 ≡ rows = ordered_agree w three beginning middle m i sound led.begins middle_three (are.correct m is_m)
        (are.correct i is_i) s own.0 rows own.1 e in
        ordered_kept w m beginning three led.begins s rows (own.1 ∙ ap (λ (x : List (List ℕ)). Some x) same)
  ]

  pub runs_spread : (i m : ℕ) → connected i ≡ true → connected m ≡ true →
      Begins (ordered_run w.group (facts_of w.group (known_by w middle i)))
      (ordered_run w.group (facts_of w.group (known_by w (((middle ++ first) ++ second) ++ third) m)))
  unfolding ordered_run
  runs_spread i m is_i is_m = runs_from (ordered w.group (facts_of w.group (known_by w middle i)))
      (ordered w.group (facts_of w.group (known_by w three m))) 1 most_number
      (λ s rows one e. order_spread i m is_i is_m s rows one e)

  pub executed_after : (i m : ℕ) → connected i ≡ true → connected m ≡ true → waiting_for w.group (known_by w three m) ≡ None →
      Begins (executed w.group (known_by w middle i)) (executed w.group (known_by w three m))
  executed_after i m is_i is_m none = executed_spread w.group (known_by w middle i) (known_by w three m)
      (λ r u x one other. certified_agree w three middle three i m sound middle_three whole_three (are.correct i is_i)
      (are.correct m is_m) r.j r.k u x one other) (runs_spread i m is_i is_m) none

pub executions_spread : ExecutionsSpread
executions_spread w connected v plan beginning middle first second third live sound are fair led begun low i m is_i is_m none =
    executed_after w connected v plan beginning middle first second third live sound are fair.0 fair.1.0 fair.1.1.0 led begun low
    i m is_i is_m none
