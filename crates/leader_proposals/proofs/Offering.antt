-- What a leader offers, and how far it came once it said so.
use Rattle.std.proofs.Common.{◌≡◌, ℕ, ◌+◌, ◌-◌, ◌<◌, ◌≤◌, ◌⊎◌, inl, inr, min, Bool, true, false, cond, ◌&&◌, List, []}
use Rattle.std.proofs.Common.{◌∷◌, ◌++◌, Option, Some, None, length, max, nat_eq, nat_le, nat_lt, get_or, refl, sym}
use Rattle.std.proofs.Common.{◌∙◌, ap, subst, arith}
use Rattle.std.specs.List.{filter_map, cons_option}
use Rattle.std.specs.Option.{option_to_list, option_map}
use Rattle.std.proofs.lemmas.Bool.{eq-eqb, ne_eqb, le-leb, lt-leb, and_from, and_left, and_right, cond-true}
use Rattle.std.proofs.lemmas.Bool.{cond-false}
use Rattle.std.proofs.lemmas.Option.{none-some, same_Some}
use Rattle.std.proofs.lemmas.List.{append-nil}
use Rattle.std.proofs.lemmas.List.Elements.{filter_map-append}
use Rattle.message_types.specs.declared.signed.Signed.{Signed}
use Rattle.message_types.specs.declared.preordering.PoSummary.{PoSummary}
use Rattle.message_types.specs.declared.views.Plan.{Plan}
use Rattle.message_types.specs.declared.body.Body.{Body}
use Rattle.message_types.specs.declared.body.Body.TheVariants as body
use Rattle.protocol_rules.specs.declared.facts.OrderFact.{OrderFact}
use Rattle.protocol_rules.specs.Words.{greatest_of, numbers_from}
use Rattle.protocol_rules.specs.Group.{Group, leader_of, most_number, window}
use Rattle.protocol_rules.specs.Matrix.{latest_frames, eligible, reach, exceeds}
use Rattle.protocol_rules.specs.Order.{gapless, plan_known, stable}
use Rattle.protocol_rules.specs.Views.{view, is_open}
use Rattle.protocol_rules.specs.Master.{latest_rows, offered_number, next_number, counted_rows, preprepares_due}
use Rattle.protocol_rules.specs.Master.{whole_preprepares_due}
use Rattle.summary_matrix.specs.Held.{TellsEach, proposal_of}
use Rattle.summary_matrix.specs.declared.reach.Reach.{Reach}
use Rattle.summary_matrix.proofs.Loops.{any_below}
use Rattle.quorum_sets.specs.declared.sizes.Sizes.{Sizes}
use Rattle.global_order.specs.OrderState.{HasSizes}
use Rattle.leader_proposals.specs.Counting.{counted_in, has_whole_base, reach_to, IsSettled, plan_end, number_within}
use Rattle.leader_proposals.specs.Offering.{IsProgressOf, Offered, AreOffersOf, Learns}
use Rattle.leader_proposals.specs.declared.progress.Progress.{Progress}
use Rattle.leader_proposals.proofs.Growing.{plan_known-more, counted_in-is}
use Rattle.leader_proposals.proofs.Reaching.{given-same, settled-none, settled-facts}
use Rattle.quorum_sets.proofs.Numbered.{masters_few}
use Rattle.protocol_rules.proofs.Greatest.{greatest_of-push}

settled-at-none : (g : Group) (p : Progress) (facts : List OrderFact) → p.settled ≡ 0 →
    TellsEach p.reach.numbers (λ j. 0) → IsSettled g facts p.view p.settled p.reach.numbers
settled-at-none g p facts none tells = subst (λ (n : ℕ). IsSettled g facts p.view n p.reach.numbers) (sym none)
    (settled-none g facts p.view p.reach.numbers tells)

-- where nothing was said
pub progress-none : (g : Group) (p : Progress) (facts : List OrderFact) → p.greatest ≡ 0 → p.settled ≡ 0 →
    TellsEach p.reach.numbers (λ j. 0) → IsProgressOf g p facts []
progress-none g p facts greatest settled tells = record {
  greatest = greatest;
  later = λ v lt. refl;
  settled = settled-at-none g p facts settled tells;
  limit = at_most p.settled (max (plan_end facts p.view) p.greatest) settled;
}
  where
    at_most : (a b : ℕ) → a ≡ 0 → a ≤ b
    at_most a b e = omega arith

-- in a later view a leader begins anew
pub progress-later : (g : Group) (old new : Progress) (facts : List OrderFact) (said : List Body) →
    old.view < new.view → new.greatest ≡ 0 → new.settled ≡ 0 → TellsEach new.reach.numbers (λ j. 0) →
    IsProgressOf g old facts said → IsProgressOf g new facts said
progress-later g old new facts said later greatest settled tells is = record {
  greatest = greatest ∙ sym (ap greatest_of (is.later new.view later));
  later = λ v lt. is.later v (omega arith);
  settled = settled-at-none g new facts settled tells;
  limit = at_most new.settled (max (plan_end facts new.view) new.greatest) settled;
}
  where
    at_most : (a b : ℕ) → a ≡ 0 → a ≤ b
    at_most a b e = omega arith

-- what lies between is settled
progress-settled : (g : Group) (old new : Progress) (facts : List OrderFact) (said : List Body) (last : ℕ) →
    new.view ≡ old.view → new.greatest ≡ old.greatest → new.settled ≤ max old.settled last →
    last ≤ max (plan_end facts old.view) old.greatest → IsSettled g facts new.view new.settled new.reach.numbers →
    IsProgressOf g old facts said → IsProgressOf g new facts said
progress-settled g old new facts said last view greatest settled_limit last_limit settled is = record {
  greatest = greatest ∙ is.greatest ∙ ap (λ v. greatest_of (filter_map (offered_number v) said)) (sym view);
  later = λ v lt. is.later v (omega arith);
  settled = settled;
  limit = subst (λ (v : ℕ). new.settled ≤ max (plan_end facts v) new.greatest) (sym view)
      (subst (λ (n : ℕ). new.settled ≤ max (plan_end facts old.view) n) (sym greatest)
      (at_most new.settled old.settled last (max (plan_end facts old.view) old.greatest)
      settled_limit last_limit is.limit));
}
  where
    at_most : (a b c d : ℕ) → a ≤ max b c → c ≤ d → b ≤ d → a ≤ d
    at_most a b c d ab cd bd = omega arith

-- what a preprepare tells of a view
offer-in : (v w s : ℕ) (frames : List (Signed PoSummary)) → w ≡ v →
    filter_map (offered_number v) (body.PrePrepare record { v = w; s = s; frames = frames } ∷ []) ≡ s ∷ []
offer-in v w s frames e = ap (λ b. cons_option (cond b (Some s) None) []) (eq-eqb w v e)

offer-other : (v w s : ℕ) (frames : List (Signed PoSummary)) → (w ≡ v → ⊥) →
    filter_map (offered_number v) (body.PrePrepare record { v = w; s = s; frames = frames } ∷ []) ≡ []
offer-other v w s frames ne = ap (λ b. cons_option (cond b (Some s) None) []) (ne_eqb w v ne)

-- one number more was offered
progress-offered : (g : Group) (p : Progress) (facts : List OrderFact) (said : List Body) (v number : ℕ)
    (frames : List (Signed PoSummary)) → p.view ≡ v → p.greatest < number → IsProgressOf g p facts said →
    IsProgressOf g (record p { greatest = number }) facts
    (said ++ body.PrePrepare record { v = v; s = number; frames = frames } ∷ [])
progress-offered g p facts said v number frames here above is = record {
  greatest =
      most (greatest_of (filter_map (offered_number p.view) said)) p.greatest is.greatest above
      ∙ sym (ap greatest_of (filter_map-append (offered_number p.view) said
      (body.PrePrepare record { v = v; s = number; frames = frames } ∷ [])
      ∙ ap (λ xs. filter_map (offered_number p.view) said ++ xs) (offer-in p.view v number frames (sym here)))
      ∙ greatest_of-push (filter_map (offered_number p.view) said) number);
  later = λ w lt.
      filter_map-append (offered_number w) said (body.PrePrepare record { v = v; s = number; frames = frames } ∷ [])
      ∙ ap (λ xs. filter_map (offered_number w) said ++ xs) (offer-other w v number frames (λ (e : v ≡ w). omega arith))
      ∙ append-nil (filter_map (offered_number w) said) ∙ is.later w lt;
  settled = is.settled;
  limit = at_most p.settled (plan_end facts p.view) p.greatest number is.limit above;
}
  where
    most : (a b : ℕ) → b ≡ a → b < number → number ≡ max a number
    most a b e lt = omega arith

    at_most : (a b c d : ℕ) → a ≤ max b c → c < d → a ≤ max b d
    at_most a b c d le lt = omega arith

-- as more facts become known
pub progress-facts : (g : Group) (p : Progress) (facts more : List OrderFact) (said : List Body) →
    IsProgressOf g p facts said → IsProgressOf g p (facts ++ more) said
progress-facts g p facts more said is = record {
  greatest = is.greatest;
  later = is.later;
  settled = settled-facts g facts more p.view p.settled p.reach.numbers is.settled;
  limit = at_most p.settled (plan_end facts p.view) (plan_end (facts ++ more) p.view) p.greatest is.limit
      (further (plan_known facts p.view) refl);
}
  where
    at_most : (a b c d : ℕ) → a ≤ max b d → b ≤ c → a ≤ max c d
    at_most a b c d le lt = omega arith

    further : (o : Option Plan) → plan_known facts p.view ≡ o →
        (elim o [ None ↦ 0 | Some plan ↦ plan.base + length plan.rows ]) ≤ plan_end (facts ++ more) p.view
    further None e = omega arith
    further (Some plan) e =
        let same : plan_end (facts ++ more) p.view ≡ plan.base + length plan.rows =
        ap (λ (o : Option Plan). elim o [ None ↦ 0 | Some plan ↦ plan.base + length plan.rows ])
        (plan_known-more facts more p.view plan e) in
        omega arith

pub offers-facts : (kept : Offered) (more : List OrderFact) → Learns kept kept more
offers-facts kept more g facts said is =
    record { sizes = is.sizes; progress = progress-facts g kept.progress facts more said is.progress }

pub offers-others : (g : Group) (kept : Offered) (facts : List OrderFact) (said other : List Body) →
    ((v : ℕ) → filter_map (offered_number v) other ≡ filter_map (offered_number v) said) →
    AreOffersOf g kept facts said → AreOffersOf g kept facts other
offers-others g kept facts said other same is = record {
  sizes = is.sizes;
  progress = record {
    greatest = is.progress.greatest ∙ ap greatest_of (sym (same kept.progress.view));
    later = λ v lt. same v ∙ is.progress.later v lt;
    settled = is.progress.settled;
    limit = is.progress.limit;
  };
}

-- the number that is offered next
number-is : (greatest : ℕ) (plan : Plan) (stable number : ℕ) → number_within greatest plan stable ≡ Some number →
    number ≡ max (plan.base + length plan.rows) greatest + 1
unfolding number_within
number-is greatest plan stable number e =
    by (nat_le (max (plan.base + length plan.rows) greatest + 1) most_number
    && nat_le (max (plan.base + length plan.rows) greatest + 1) (stable + window)) e
  where
    by : (b : Bool) → cond b (Some (max (plan.base + length plan.rows) greatest + 1)) None ≡ Some number →
        number ≡ max (plan.base + length plan.rows) greatest + 1
    by true e = sym (same_Some _ number e)
    by false e = absurd (none-some number e)

plan_end-is : (facts : List OrderFact) (v : ℕ) (plan : Plan) → plan_known facts v ≡ Some plan →
    plan_end facts v ≡ plan.base + length plan.rows
plan_end-is facts v plan e = ap (λ (o : Option Plan). elim o [ None ↦ 0 | Some p ↦ p.base + length p.rows ]) e

-- what is due once the plan of the present view is known
abbrev offer : Group → List (Signed Body) → List OrderFact → List Body → Bool → Bool → Bool → Plan → List Body
offer g known facts said t l o plan =
    let s = next_number said (view g known) plan in
    cond (t && l && o && nat_le s most_number && nat_le s (stable g facts + window)
    && exceeds g (latest_rows g known)
    (reach g (filter_map (counted_rows g facts (view g known) plan) (numbers_from 1 (s - 1)))))
    (body.PrePrepare record { v = view g known; s = s; frames = latest_frames g known } ∷ []) []

-- what is due by the plan of the present view, if it is known
abbrev offer_by : Group → List (Signed Body) → List OrderFact → List Body → Bool → Bool → Bool → Option Plan → List Body
offer_by g known facts said t l o p = elim p [ None ↦ [] | Some plan ↦ offer g known facts said t l o plan ]

due-plan : (g : Group) (me : ℕ) (known : List (Signed Body)) (facts : List OrderFact) (said : List Body)
    (at_tick : Bool) (plan : Plan) →
    cond (at_tick && nat_eq me (leader_of g (view g known)) && is_open g known) (plan_known facts (view g known))
    None ≡ Some plan → offer g known facts said true true true plan ≡ preprepares_due g me known facts said at_tick
due-plan g me known facts said at_tick plan some = by at_tick (nat_eq me (leader_of g (view g known)))
    (is_open g known) (plan_known facts (view g known)) some
  where
    by : (t l o : Bool) (p : Option Plan) → cond (t && l && o) p None ≡ Some plan →
        offer g known facts said true true true plan ≡ offer_by g known facts said t l o p
    by true true true None some = absurd (none-some plan some)
    by true true true (Some p) some = ap (offer g known facts said true true true) (sym (same_Some p plan some))
    by true true false p some = absurd (none-some plan some)
    by true false o p some = absurd (none-some plan some)
    by false l o p some = absurd (none-some plan some)

due-beyond : (g : Group) (me : ℕ) (known : List (Signed Body)) (facts : List OrderFact) (said : List Body)
    (at_tick : Bool) (plan : Plan) (greatest stable_number : ℕ) →
    cond (at_tick && nat_eq me (leader_of g (view g known)) && is_open g known) (plan_known facts (view g known))
    None ≡ Some plan →
    greatest ≡ greatest_of (filter_map (offered_number (view g known)) said) → stable_number ≡ stable g facts →
    number_within greatest plan stable_number ≡ None → [] ≡ preprepares_due g me known facts said at_tick
unfolding number_within
due-beyond g me known facts said at_tick plan greatest stable_number some greatest_is stable_is none =
    by (nat_le s most_number) (nat_le s (stable g facts + window))
    (exceeds g (latest_rows g known)
    (reach g (filter_map (counted_rows g facts (view g known) plan) (numbers_from 1 (s - 1)))))
    (ap (λ n. number_within n plan (stable g facts)) (sym greatest_is)
    ∙ ap (number_within greatest plan) (sym stable_is) ∙ none)
    ∙ due-plan g me known facts said at_tick plan some
  where
    s : ℕ
    s = next_number said (view g known) plan

    by : (a b e : Bool) → cond (a && b) (Some s) None ≡ None →
        [] ≡ cond (true && true && true && a && b && e)
        (body.PrePrepare record { v = view g known; s = s; frames = latest_frames g known } ∷ []) []
    by true true e none = absurd (none-some s (sym none))
    by true false e none = refl
    by false b e none = refl

due-answer : (g : Group) (me : ℕ) (known : List (Signed Body)) (facts : List OrderFact) (said : List Body)
    (at_tick : Bool) (plan : Plan) (greatest stable_number number : ℕ) (numbers : List ℕ)
    (answer : Option (List (Signed PoSummary))) →
    cond (at_tick && nat_eq me (leader_of g (view g known)) && is_open g known) (plan_known facts (view g known))
    None ≡ Some plan →
    greatest ≡ greatest_of (filter_map (offered_number (view g known)) said) → stable_number ≡ stable g facts →
    number_within greatest plan stable_number ≡ Some number →
    plan_known facts (view g known) ≡ Some plan → g.n ≤ 14 →
    TellsEach numbers (reach_to g facts (view g known) (number - 1)) →
    answer ≡ proposal_of g known (λ j. get_or numbers j 0) →
    option_to_list (option_map (λ frames. body.PrePrepare record { v = view g known; s = number; frames = frames })
    answer) ≡ preprepares_due g me known facts said at_tick
unfolding number_within proposal_of
due-answer g me known facts said at_tick plan greatest stable_number number numbers answer some greatest_is stable_is
    number_known plan_is few tells proposed =
    ap (λ o. option_to_list (option_map
    (λ frames. body.PrePrepare record { v = view g known; s = number; frames = frames }) o))
    (proposed ∙ ap (λ b. cond b (Some (latest_frames g known)) None) same)
    ∙ by (nat_le s most_number) (nat_le s (stable g facts + window)) (exceeds g (latest_rows g known) (reach g counted))
    (ap (λ n. number_within n plan (stable g facts)) (sym greatest_is) ∙ ap (number_within greatest plan)
    (sym stable_is) ∙ number_known)
    ∙ due-plan g me known facts said at_tick plan some
  where
    s : ℕ
    s = next_number said (view g known) plan

    number_is : number ≡ s
    number_is = number-is greatest plan stable_number number number_known
        ∙ ap (λ n. max (plan.base + length plan.rows) n + 1) greatest_is

    counted : List (List (List ℕ))
    counted = filter_map (counted_rows g facts (view g known) plan) (numbers_from 1 (s - 1))

    told : (j : ℕ) → j < 14 → get_or numbers j 0 ≡ reach g counted j
    told j lt =
        tells j lt ∙ ap (λ n. reach_to g facts (view g known) (n - 1) j) number_is
        ∙ ap (λ all. reach g all j)
        (given-same (counted_in g facts (view g known)) (counted_rows g facts (view g known) plan) (s - 1)
        (λ n low le. counted_in-is g facts (view g known) n plan plan_is))

    same : exceeds g (latest_rows g known) (λ j. get_or numbers j 0) ≡ exceeds g (latest_rows g known) (reach g counted)
    same = any_below _ _ g.n (λ j lt. ap (λ n. nat_lt n (eligible g (latest_rows g known) j)) (told j (omega arith)))

    by : (a b e : Bool) → cond (a && b) (Some s) None ≡ Some number →
        option_to_list (option_map
        (λ frames. body.PrePrepare record { v = view g known; s = number; frames = frames })
        (cond e (Some (latest_frames g known)) None))
        ≡ cond (true && true && true && a && b && e)
        (body.PrePrepare record { v = view g known; s = s; frames = latest_frames g known } ∷ []) []
    by true true true found =
        ap (λ n. body.PrePrepare record { v = view g known; s = n; frames = latest_frames g known } ∷ []) number_is
    by true true false found = refl
    by true false e found = absurd (none-some number found)
    by false b e found = absurd (none-some number found)

-- with other numbers settled
pub settled-record : (g : Group) (facts : List OrderFact) (p new : Progress) (settled : ℕ) (reached : Reach) →
    new ≡ record p { settled = settled; reach = reached } → IsSettled g facts p.view settled reached.numbers →
    IsSettled g facts new.view new.settled new.reach.numbers
settled-record g facts p new settled reached e is =
    subst (λ (q : Progress). IsSettled g facts q.view q.settled q.reach.numbers) (sym e) is

-- The same in the words of the code: the present view, whether the master leads it and whether it is opened are told.

allowed-is : (g : Group) (me : ℕ) (known : List (Signed Body)) (facts : List OrderFact) (at_tick leads opened : Bool)
    (v : ℕ) (o : Option Plan) → v ≡ view g known → opened ≡ is_open g known → leads ≡ nat_eq me (leader_of g v) →
    o ≡ cond (at_tick && leads && opened) (plan_known facts v) None →
    cond (at_tick && nat_eq me (leader_of g (view g known)) && is_open g known)
    (plan_known facts (view g known)) None ≡ o
allowed-is g me known facts at_tick leads opened v o view_is open_is leads_is told =
    sym (told ∙ ap (λ b. cond (at_tick && b && opened) (plan_known facts v) None)
    (leads_is ∙ ap (λ n. nat_eq me (leader_of g n)) view_is)
    ∙ ap (λ b. cond (at_tick && nat_eq me (leader_of g (view g known)) && b) (plan_known facts v) None) open_is
    ∙ ap (λ n. cond (at_tick && nat_eq me (leader_of g (view g known)) && is_open g known) (plan_known facts n) None)
    view_is)

pub plan-allowed : (b : Bool) (o : Option Plan) (plan : Plan) → Some plan ≡ cond b o None → o ≡ Some plan
plan-allowed true o plan e = sym e
plan-allowed false o plan e = absurd (none-some plan (sym e))

-- where the master may offer nothing, as no plan of the view is known
pub unplanned-due : (g : Group) (me : ℕ) (known : List (Signed Body)) (facts : List OrderFact) (said : List Body)
    (at_tick leads opened : Bool) (v : ℕ) →
    v ≡ view g known → opened ≡ is_open g known → leads ≡ nat_eq me (leader_of g v) →
    None ≡ cond (at_tick && leads && opened) (plan_known facts v) None →
    [] ≡ preprepares_due g me known facts said at_tick
unplanned-due g me known facts said at_tick leads opened v view_is open_is leads_is none =
    by at_tick (nat_eq me (leader_of g (view g known))) (is_open g known) (plan_known facts (view g known))
    (allowed-is g me known facts at_tick leads opened v None view_is open_is leads_is none)
  where
    by : (t l o : Bool) (p : Option Plan) → cond (t && l && o) p None ≡ None → [] ≡ offer_by g known facts said t l o p
    by t l o None e = refl
    by true true true (Some p) e = absurd (none-some p (sym e))
    by true true false (Some p) e = refl
    by true false o (Some p) e = refl
    by false l o (Some p) e = refl

pub nothing-due : (g : Group) (me : ℕ) (known : List (Signed Body)) (facts : List OrderFact) (said : List Body)
    (at_tick leads opened : Bool) (v : ℕ) (plan : Plan) (p : Progress) (stable_number : ℕ) →
    v ≡ view g known → opened ≡ is_open g known → leads ≡ nat_eq me (leader_of g v) →
    Some plan ≡ cond (at_tick && leads && opened) (plan_known facts v) None → p.view ≡ v →
    IsProgressOf g p facts said →
    stable_number ≡ stable g facts → None ≡ number_within p.greatest plan stable_number →
    [] ≡ preprepares_due g me known facts said at_tick
nothing-due g me known facts said at_tick leads opened v plan p stable_number view_is open_is leads_is
    some here is stable_is none =
    due-beyond g me known facts said at_tick plan p.greatest stable_number
    (allowed-is g me known facts at_tick leads opened v (Some plan) view_is open_is leads_is some)
    (is.greatest ∙ ap (λ n. greatest_of (filter_map (offered_number n) said)) (here ∙ view_is)) stable_is (sym none)

pub answer-due : (g : Group) (me : ℕ) (known : List (Signed Body)) (facts : List OrderFact) (said : List Body)
    (at_tick leads opened : Bool) (v : ℕ) (plan : Plan) (p : Progress) (stable_number number : ℕ) (numbers : List ℕ)
    (w : ℕ) (answer : Option (List (Signed PoSummary))) →
    v ≡ view g known → opened ≡ is_open g known → leads ≡ nat_eq me (leader_of g v) →
    Some plan ≡ cond (at_tick && leads && opened) (plan_known facts v) None → p.view ≡ v →
    IsProgressOf g p facts said →
    stable_number ≡ stable g facts → Some number ≡ number_within p.greatest plan stable_number → g.n ≤ 14 → w ≡ v →
    TellsEach numbers (reach_to g facts w (number - 1)) → answer ≡ proposal_of g known (λ j. get_or numbers j 0) →
    option_to_list (option_map (λ frames. body.PrePrepare record { v = v; s = number; frames = frames }) answer) ≡
    preprepares_due g me known facts said at_tick
answer-due g me known facts said at_tick leads opened v plan p stable_number number numbers w answer view_is open_is
    leads_is some here is stable_is number_known few at tells proposed =
    ap (λ n. option_to_list (option_map (λ frames. body.PrePrepare record { v = n; s = number; frames = frames })
    answer)) view_is
    ∙ due-answer g me known facts said at_tick plan p.greatest stable_number number numbers answer
    (allowed-is g me known facts at_tick leads opened v (Some plan) view_is open_is leads_is some)
    (is.greatest ∙ ap (λ n. greatest_of (filter_map (offered_number n) said)) (here ∙ view_is))
    stable_is (sym number_known)
    (ap (plan_known facts) (sym view_is) ∙ plan-allowed (at_tick && leads && opened) (plan_known facts v) plan some) few
    (subst (λ (n : ℕ). TellsEach numbers (reach_to g facts n (number - 1))) (at ∙ view_is) tells) proposed

-- the next number is at least 1
pub number-some : (greatest : ℕ) (plan : Plan) (stable_number number : ℕ) →
    Some number ≡ number_within greatest plan stable_number → 1 ≤ number
number-some greatest plan stable_number number e = let is = number-is greatest plan stable_number number (sym e) in
    omega arith

-- settled up to before the next number
settled-last : (g : Group) (p : Progress) (facts : List OrderFact) (said : List Body) (plan : Plan)
    (stable_number number : ℕ) → plan_known facts p.view ≡ Some plan →
    Some number ≡ number_within p.greatest plan stable_number →
    number - 1 ≡ max (plan_end facts p.view) p.greatest
settled-last g p facts said plan stable_number number known e =
    let is = number-is p.greatest plan stable_number number (sym e) in
    let last : number - 1 ≡ max (plan.base + length plan.rows) p.greatest = omega arith in
    last ∙ ap (λ n. max n p.greatest) (sym (plan_end-is facts p.view plan known))

pub settled-below : (g : Group) (p : Progress) (facts : List OrderFact) (said : List Body) (plan : Plan)
    (stable_number number settled : ℕ) → plan_known facts p.view ≡ Some plan →
    Some number ≡ number_within p.greatest plan stable_number →
    settled ≤ max p.settled (number - 1) → IsProgressOf g p facts said → settled ≤ number - 1
settled-below g p facts said plan stable_number number settled known e le is =
    at_most settled p.settled (number - 1) (max (plan_end facts p.view) p.greatest) le
    (settled-last g p facts said plan stable_number number known e) is.limit
  where
    at_most : (a b c d : ℕ) → a ≤ max b c → c ≡ d → b ≤ d → a ≤ c
    at_most a b c d ab cd bd = omega arith

pub kept-settled : (g : Group) (old new : Progress) (facts : List OrderFact) (said : List Body) (plan : Plan)
    (stable_number number : ℕ) → new.view ≡ old.view → new.greatest ≡ old.greatest →
    new.settled ≤ max old.settled (number - 1) →
    plan_known facts old.view ≡ Some plan → Some number ≡ number_within old.greatest plan stable_number →
    IsSettled g facts new.view new.settled new.reach.numbers → IsProgressOf g old facts said →
    IsProgressOf g new facts said
kept-settled g old new facts said plan stable_number number view greatest limit known e settled is =
    progress-settled g old new facts said (number - 1) view greatest limit
    (at_most (number - 1) (max (plan_end facts old.view) old.greatest)
    (settled-last g old facts said plan stable_number number known e)) settled is
  where
    at_most : (a b : ℕ) → a ≡ b → a ≤ b
    at_most a b e = omega arith

pub kept-offered : (g : Group) (p new : Progress) (facts : List OrderFact) (said : List Body) (plan : Plan)
    (stable_number v number greatest : ℕ) (frames : List (Signed PoSummary)) → p.view ≡ v → p.greatest ≡ greatest →
    Some number ≡ number_within greatest plan stable_number → new ≡ record p { greatest = number } →
    IsProgressOf g p facts said →
    IsProgressOf g new facts (said ++ body.PrePrepare record { v = v; s = number; frames = frames } ∷ [])
kept-offered g p new facts said plan stable_number v number greatest frames here same e new_is is =
    let at = number-is greatest plan stable_number number (sym e) in
    let above : p.greatest < number = omega arith in
    subst (λ (q : Progress). IsProgressOf g q facts
    (said ++ body.PrePrepare record { v = v; s = number; frames = frames } ∷ [])) (sym new_is)
    (progress-offered g p facts said v number frames here above is)

-- a group has at most 14 masters
pub group-few : (g : Group) (sizes : Sizes) → HasSizes g sizes.n sizes.q → g.n ≤ 14
group-few g sizes has = let few = masters_few sizes in let same : g.n ≡ sizes.n = has.masters in omega arith

-- the next number as it is counted, no sum above `most`
pub sum-within : (sum greatest most planned biggest number : ℕ) → 4096 < most → planned ≡ min sum most →
    biggest ≡ max planned greatest → number ≡ min (biggest + 1) most → number ≤ 4096 → number ≡ max sum greatest + 1
sum-within sum greatest most planned biggest number far planned_is biggest_is number_is le = omega arith

pub sum-beyond : (sum greatest most planned biggest number : ℕ) → planned ≡ min sum most →
    biggest ≡ max planned greatest → number ≡ min (biggest + 1) most → 4096 < number → 4096 < max sum greatest + 1
sum-beyond sum greatest most planned biggest number planned_is biggest_is number_is lt = omega arith

pub within-some : (greatest : ℕ) (plan : Plan) (stable_number number : ℕ) →
    number ≡ max (plan.base + length plan.rows) greatest + 1 → number ≤ 4096 → number - stable_number ≤ 16 →
    Some number ≡ number_within greatest plan stable_number
unfolding number_within most_number window
within-some greatest plan stable_number number e le near =
    ap Some e
    ∙ sym (cond-true (nat_le (max (plan.base + length plan.rows) greatest + 1) 4096
    && nat_le (max (plan.base + length plan.rows) greatest + 1) (stable_number + 16))
    (Some (max (plan.base + length plan.rows) greatest + 1)) None
    (and_from (nat_le (max (plan.base + length plan.rows) greatest + 1) 4096)
    (nat_le (max (plan.base + length plan.rows) greatest + 1) (stable_number + 16))
    (le-leb (max (plan.base + length plan.rows) greatest + 1) 4096 (omega arith))
    (le-leb (max (plan.base + length plan.rows) greatest + 1) (stable_number + 16) (omega arith))))

pub within-none : (greatest : ℕ) (plan : Plan) (stable_number : ℕ) →
    (4096 < max (plan.base + length plan.rows) greatest + 1)
    ⊎ (16 < max (plan.base + length plan.rows) greatest + 1 - stable_number) →
    None ≡ number_within greatest plan stable_number
unfolding number_within most_number window
within-none greatest plan stable_number beyond =
    sym (cond-false (nat_le (max (plan.base + length plan.rows) greatest + 1) 4096
    && nat_le (max (plan.base + length plan.rows) greatest + 1) (stable_number + 16))
    (Some (max (plan.base + length plan.rows) greatest + 1)) None (by beyond))
  where
    by : (4096 < max (plan.base + length plan.rows) greatest + 1)
        ⊎ (16 < max (plan.base + length plan.rows) greatest + 1 - stable_number) →
        (nat_le (max (plan.base + length plan.rows) greatest + 1) 4096
        && nat_le (max (plan.base + length plan.rows) greatest + 1) (stable_number + 16)) ≡ false
    by (inl far) = and_left (nat_le (max (plan.base + length plan.rows) greatest + 1) 4096)
        (nat_le (max (plan.base + length plan.rows) greatest + 1) (stable_number + 16))
        (lt-leb (max (plan.base + length plan.rows) greatest + 1) 4096 far)
    by (inr far) = and_right (nat_le (max (plan.base + length plan.rows) greatest + 1) 4096)
        (nat_le (max (plan.base + length plan.rows) greatest + 1) (stable_number + 16))
        (lt-leb (max (plan.base + length plan.rows) greatest + 1) (stable_number + 16) (omega arith))

-- what is offered where all up to the base of the plan must be ordered
pub whole-is : (g : Group) (me : ℕ) (known : List (Signed Body)) (facts : List OrderFact) (said : List Body)
    (at_tick is_whole : Bool) (v : ℕ) → v ≡ view g known → is_whole ≡ has_whole_base g facts v →
    cond is_whole (preprepares_due g me known facts said at_tick) []
    ≡ whole_preprepares_due g me known facts said at_tick
whole-is g me known facts said at_tick is_whole v view_is whole =
    ap (λ b. cond b (preprepares_due g me known facts said at_tick) []) (whole ∙ ap (has_whole_base g facts) view_is)
    ∙ by (plan_known facts (view g known)) (preprepares_due g me known facts said at_tick)
  where
    by : (o : Option Plan) (due : List Body) →
        cond (elim o [ None ↦ false | Some plan ↦ nat_le plan.base (gapless g facts) ]) due []
        ≡ elim o [ None ↦ [] | Some plan ↦ cond (nat_le plan.base (gapless g facts)) due [] ]
    by None due = refl
    by (Some plan) due = refl

pub whole-none : (g : Group) (facts : List OrderFact) (v : ℕ) → plan_known facts v ≡ None →
    false ≡ has_whole_base g facts v
whole-none g facts v none =
    ap (λ o. elim o [ None ↦ false | Some plan ↦ nat_le plan.base (gapless g facts) ]) (sym none)

pub whole-some : (g : Group) (facts : List OrderFact) (v : ℕ) (plan : Plan) (reached : ℕ) →
    plan_known facts v ≡ Some plan → reached ≡ gapless g facts → nat_le plan.base reached ≡ has_whole_base g facts v
whole-some g facts v plan reached known is =
    ap (nat_le plan.base) is
    ∙ ap (λ o. elim o [ None ↦ false | Some plan ↦ nat_le plan.base (gapless g facts) ]) (sym known)
