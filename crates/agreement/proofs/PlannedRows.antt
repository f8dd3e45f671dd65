-- What a plan gives to a number: the rows of a certificate of the highest view.
use Rattle.std.proofs.Common.{◌≡◌, ℕ, ◌+◌, ◌-◌, ◌<◌, ◌≤◌, zero, suc, Bool, true, false, cond, ◌&&◌, List, [], ◌∷◌}
use Rattle.std.proofs.Common.{Option, Some, None, length, map, filter, nat_eq, nat_lt, nat_le, refl, sym, ◌∙◌, ap}
use Rattle.std.proofs.Common.{subst, inl, inr, arith, eqb-true}
use Rattle.std.proofs.lemmas.Bool.{true≢false, or_cases, or_parts, and_parts, ltb-true, ltb-false, eq-eqb, leb-false}
use Rattle.std.proofs.lemmas.Bool.{le-leb}
use Rattle.std.proofs.lemmas.List.{length-map}
use Rattle.std.specs.Prelude.{slice_get}
use Rattle.std.specs.List.{filter_map}
use Rattle.plain_lists.specs.Lists.{IsIn}
use Rattle.plain_lists.proofs.Members.{none_in, in_cons_cases, in_filter, in_filter_from, some_same, none_some}
use Rattle.message_types.specs.declared.ordering.Certificate.{Certificate}
use Rattle.message_types.specs.declared.views.Report.{Report}
use Rattle.message_types.specs.declared.views.Plan.{Plan}
use Rattle.message_types.specs.Digests.{digest_of_rows}
use Rattle.protocol_rules.specs.declared.facts.OrderFact.{OrderFact}
use Rattle.protocol_rules.specs.declared.facts.OrderFact.TheVariants as fact
use Rattle.protocol_rules.specs.Words.{best_by, best_from, greatest_of, numbers_from, first_of_list}
use Rattle.protocol_rules.specs.Group.{Group}
use Rattle.protocol_rules.specs.Plans.{goes_before, digest_below, certificates_of, chosen, planned, base_of, last_of}
use Rattle.protocol_rules.specs.Plans.{plan_of, no_rows, first_plan}
use Rattle.protocol_rules.specs.Order.{plan_in, plan_known, proposal_in, offered}
use Rattle.agreement.proofs.FramesInside.{best_in, best_there}
use Rattle.agreement.proofs.SpokenByKind.{if_some}
use Rattle.protocol_rules.proofs.Numbers.{length-numbers_from}

beats_higher : (a b : Certificate) → goes_before a b ≡ true → b.v ≤ a.v
beats_higher a b e = elim
    (or_cases (nat_lt b.v a.v) (nat_eq a.v b.v && digest_below (digest_of_rows a.rows) (digest_of_rows b.rows)) e) [
      | inl less ↦ let lt : b.v < a.v = ltb-true b.v a.v less in omega arith
      | inr tie ↦ let same : a.v ≡ b.v = eqb-true a.v b.v (and_parts _ _ tie).0 in omega arith
    ]

unbeaten_higher : (a b : Certificate) → goes_before a b ≡ false → a.v ≤ b.v
unbeaten_higher a b e = ltb-false b.v a.v
    (or_parts (nat_lt b.v a.v) (nat_eq a.v b.v && digest_below (digest_of_rows a.rows) (digest_of_rows b.rows)) e).0

best_highest : (best : Certificate) (cs : List Certificate) → (best.v ≤ (best_from goes_before best cs).v)
    × ((c : Certificate) → IsIn c cs → c.v ≤ (best_from goes_before best cs).v)
best_highest best [] = (omega arith, λ c h. absurd (none_in h))
best_highest best (x ∷ cs) = by_test (goes_before x best) refl (best_highest x cs) (best_highest best cs)
  where
    by_test : (b : Bool) → goes_before x best ≡ b
        → (x.v ≤ (best_from goes_before x cs).v)
        × ((c : Certificate) → IsIn c cs → c.v ≤ (best_from goes_before x cs).v)
        → (best.v ≤ (best_from goes_before best cs).v)
        × ((c : Certificate) → IsIn c cs → c.v ≤ (best_from goes_before best cs).v)
        → (best.v ≤ (best_from goes_before (cond b x best) cs).v)
        × ((c : Certificate) → IsIn c (x ∷ cs) → c.v ≤ (best_from goes_before (cond b x best) cs).v)
    by_test true e one other =
        let higher : best.v ≤ x.v = beats_higher x best e in
        let first : x.v ≤ (best_from goes_before x cs).v = one.0 in (
          omega arith,
          λ c h. elim (in_cons_cases h) [
            | inl same ↦ let at : c.v ≡ x.v =
                ap (λ (z : Certificate). z.v) same in omega arith
            | inr later ↦ one.1 c later
          ],
        )
    by_test false e one other =
        let higher : x.v ≤ best.v = unbeaten_higher x best e in
        let first : best.v ≤ (best_from goes_before best cs).v = other.0 in (
          omega arith,
          λ c h. elim (in_cons_cases h) [
            | inl same ↦ let at : c.v ≡ x.v =
                ap (λ (z : Certificate). z.v) same in omega arith
            | inr later ↦ other.1 c later
          ],
        )

best_by_highest : (cs : List Certificate) (best c : Certificate) → best_by goes_before cs ≡ Some best →
    IsIn c cs → c.v ≤ best.v
unfolding best_by
best_by_highest [] best c e h = absurd (none_in h)
best_by_highest (x ∷ cs) best c e h = subst (λ (z : Certificate). c.v ≤ z.v) (some_same e) (elim (in_cons_cases h) [
  | inl same ↦ let at : c.v ≡ x.v = ap (λ (z : Certificate). z.v) same in
      let first : x.v ≤ (best_from goes_before x cs).v = (best_highest x cs).0 in omega arith
  | inr later ↦ (best_highest x cs).1 c later
])

-- where the reports bring a certificate for a number, what is planned for it is a certificate's of no lower view
pub planned_at : (g : Group) (reports : List Report) (s : ℕ) (c : Certificate) →
    IsIn c (certificates_of reports) → c.s ≡ s
    → (best : Certificate) × IsIn best (certificates_of reports) × (best.s ≡ s) × (c.v ≤ best.v)
    × (planned g reports s ≡ best.rows)
unfolding chosen
planned_at g reports s c h at =
    let candidates : List Certificate = filter (λ c. nat_eq c.s s) (certificates_of reports) in
    let candidate : IsIn c candidates = in_filter (λ c. nat_eq c.s s) h (eq-eqb c.s s at) in
    let best = best_there goes_before candidate in
    let member = in_filter_from (λ c. nat_eq c.s s) (certificates_of reports)
    (best_in goes_before candidates best.1) in (
      best.0,
      member.0,
      eqb-true best.0.s s member.1,
      best_by_highest candidates best.0 c best.1 candidate,
      ap (λ (o : Option Certificate). elim o as (λ _. List (List ℕ)) [ Some c ↦ c.rows | None ↦ no_rows g ]) best.1,
    )

pub greatest_above : (x : ℕ) (xs : List ℕ) → IsIn x xs → x ≤ greatest_of xs
greatest_above x [] h = absurd (none_in h)
greatest_above x (y ∷ ys) h = elim (in_cons_cases h) [
  | inl e ↦ omega arith
  | inr later ↦ let less : x ≤ greatest_of ys = greatest_above x ys later in omega arith
]

slice_planned : (f : ℕ → List (List ℕ)) (start count k : ℕ) → k < count →
    slice_get (map f (numbers_from start count)) k ≡ Some (f (start + k))
unfolding numbers_from
slice_planned f start zero k lt = absurd (omega arith)
slice_planned f start (suc count) zero lt = ap (λ x. Some (f x)) (omega arith)
slice_planned f start (suc count) (suc k) lt = slice_planned f (suc start) count k (omega arith)
    ∙ ap (λ x. Some (f x)) (omega arith)

-- what the plan of some reports gives to a number above its base, up to which it goes
pub plan_gives : (g : Group) (reports : List Report) (s : ℕ) → base_of reports < s → s ≤ last_of reports
    → (s ≤ (plan_of g reports).base + length (plan_of g reports).rows)
    × (slice_get (plan_of g reports).rows (s - (plan_of g reports).base - 1) ≡ Some (planned g reports s))
unfolding plan_of
plan_gives g reports s above below =
    let base : ℕ = base_of reports in
    let last : ℕ = last_of reports in
    let len : length (map (planned g reports)
    (numbers_from (base_of reports + 1) (last_of reports - base_of reports))) ≡ last_of reports - base_of reports =
    length-map (numbers_from (base_of reports + 1) (last_of reports - base_of reports)) (planned g reports)
    ∙ length-numbers_from (base_of reports + 1) (last_of reports - base_of reports) in (
      omega arith,
      slice_planned (planned g reports) (base_of reports + 1) (last_of reports - base_of reports)
          (s - base_of reports - 1) (omega arith) ∙ ap (λ x. Some (planned g reports x)) (omega arith),
    )

pub plan_base : (g : Group) (reports : List Report) → (plan_of g reports).base ≡ base_of reports
unfolding plan_of
plan_base g reports = refl

-- what is offered above view 0
pub offered_from : (facts : List OrderFact) (v s : ℕ) (rows : List (List ℕ)) → 1 ≤ v → offered facts v s ≡ Some rows
    → (plan : Plan) × (first_of_list (filter_map (plan_in v) facts) ≡ Some plan) × (plan.base < s)
    × (s ≤ plan.base + length plan.rows → slice_get plan.rows (s - plan.base - 1) ≡ Some rows)
unfolding offered
offered_from facts v s rows above e = by_plan (plan_known facts v) refl e
  where
    later_view : (b : Bool) → nat_eq v 0 ≡ b → (plan : Plan) →
        cond b (Some first_plan) (first_of_list (filter_map (plan_in v) facts)) ≡ Some plan →
        first_of_list (filter_map (plan_in v) facts) ≡ Some plan
    later_view true zero_view plan e = let is : v ≡ 0 = eqb-true v 0 zero_view in absurd (omega arith)
    later_view false other plan e = e

    by_base : (plan : Plan) (b c : Bool) → nat_le s plan.base ≡ b → nat_le s (plan.base + length plan.rows) ≡ c →
        first_of_list (filter_map (plan_in v) facts) ≡ Some plan
        → cond b None (cond c (slice_get plan.rows (s - plan.base - 1))
        (first_of_list (filter_map (proposal_in v s) facts))) ≡ Some rows
        → (plan : Plan) × (first_of_list (filter_map (plan_in v) facts) ≡ Some plan) × (plan.base < s)
        × (s ≤ plan.base + length plan.rows → slice_get plan.rows (s - plan.base - 1) ≡ Some rows)
    by_base plan true c low upto first e = absurd (none_some e)
    by_base plan false true low upto first e = (plan, first, leb-false s plan.base low, λ _. e)
    by_base plan false false low upto first e = (
      plan,
      first,
      leb-false s plan.base low,
      λ within. absurd (true≢false (sym (le-leb s (plan.base + length plan.rows) within) ∙ upto)),
    )

    by_plan : (o : Option Plan) → plan_known facts v ≡ o
        → (elim o [
          | None ↦ None
          | Some plan ↦ cond (nat_le s plan.base) None
              (cond (nat_le s (plan.base + length plan.rows)) (slice_get plan.rows (s - plan.base - 1))
              (first_of_list (filter_map (proposal_in v s) facts)))
        ]) ≡ Some rows
        → (plan : Plan) × (first_of_list (filter_map (plan_in v) facts) ≡ Some plan) × (plan.base < s)
        × (s ≤ plan.base + length plan.rows → slice_get plan.rows (s - plan.base - 1) ≡ Some rows)
    by_plan None is e = absurd (none_some e)
    by_plan (Some plan) is e = by_base plan (nat_le s plan.base) (nat_le s (plan.base + length plan.rows)) refl refl
        (later_view (nat_eq v 0) refl plan is) e

pub plan_in_from : (v : ℕ) (x : OrderFact) (plan : Plan) → plan_in v x ≡ Some plan → x ≡ fact.Plan v plan
plan_in_from v (fact.Plan w p) plan e = let held = if_some (nat_eq w v) e in
    λ x. fact.Plan ((eqb-true w v held.0) x) (held.1 x)
plan_in_from v _ plan e = absurd (none_some e)
