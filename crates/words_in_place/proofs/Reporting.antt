-- Words on views that a master says: a report's marks and certificates, and a new view's reports, are what places ask
-- for.
use Rattle.std.proofs.Common.{◌≡◌, ℕ, ◌+◌, ◌%◌, ◌<◌, ◌≤◌, Bool, true, false, cond, List, [], ◌∷◌, Some, length}
use Rattle.std.proofs.Common.{length-take-le, take, filter, nat_eq, nat_le, refl, sym, ◌∙◌, ap, subst, inl, inr, ◌⊎◌}
use Rattle.std.proofs.Common.{arith}
use Rattle.std.specs.List.{list_all, filter_map}
use Rattle.std.proofs.lemmas.Bool.{true≢false, and_from, and_parts, leb-true, le-leb, lt-ltb, eq-eqb}
use Rattle.plain_lists.specs.Lists.{IsIn, here, Each}
use Rattle.plain_lists.proofs.Members.{each_none, each_one, each_if, in_filter_from, in_filter_map_from, in_take, none_some}
use Rattle.quorum_sets.specs.Masters.{numbers_below}
use Rattle.message_types.specs.declared.signed.Signed.{Signed}
use Rattle.message_types.specs.declared.ordering.Certificate.{Certificate}
use Rattle.message_types.specs.declared.views.Report.{Report}
use Rattle.message_types.specs.declared.body.Body.{Body}
use Rattle.message_types.specs.declared.body.Body.TheVariants as body
use Rattle.message_types.specs.Digests.{digest_of_rows}
use Rattle.protocol_rules.specs.declared.facts.OrderFact.{OrderFact}
use Rattle.protocol_rules.specs.declared.facts.OrderFact.TheVariants as fact
use Rattle.protocol_rules.specs.Words.{numbers_from, greatest_of, first_of_list}
use Rattle.protocol_rules.specs.Group.{Group, most_number, window, mark_step}
use Rattle.protocol_rules.specs.Places.{certificate_in_place, is_view}
use Rattle.protocol_rules.specs.Facts.{rows_known}
use Rattle.protocol_rules.specs.Plans.{digest_below}
use Rattle.protocol_rules.specs.Order.{stable, number_marked, is_voted, quorum_of, prepare_by, mark_by, marks_for}
use Rattle.protocol_rules.specs.Order.{least_prepared, certificate_of, certificates_below}
use Rattle.protocol_rules.specs.Views.{view, report_due, new_view_due, first_reports, report_by}
use Rattle.protocol_rules.proofs.Greatest.{or_zero}
use Rattle.agreement.proofs.QuorumsStay.{each_below}
use Rattle.agreement.proofs.SpokenByKind.{if_some}
use Rattle.agreement.proofs.FramesInside.{best_in, certificate_from, report_from}
use Rattle.words_in_place.proofs.Limits.{all_from, number_bounds, from_bounds, greatest_in, shown_low}
use Rattle.words_in_place.proofs.Facts.{FactPlaced, rows_placed}
use Rattle.words_in_place.proofs.Ordering.{WordPlaced, quorum_exact, quorum_alike, prepares_alike, mark_by_at}
use Rattle.words_in_place.proofs.Ordering.{voted_prepare, voted_mark}

-- a base is 0, or a quorum's marks show it
abbrev IsShown : Group → List OrderFact → ℕ → Type 0
IsShown g facts base = (base ≡ 0) ⊎ (is_voted g (mark_by base) facts ≡ true)

-- a mark that shows a number is one of a quorum's
mark_voted : (g : Group) (facts : List OrderFact) (x : OrderFact) (s : ℕ) → number_marked g facts x ≡ Some s →
    is_voted g (mark_by s) facts ≡ true
mark_voted g facts (fact.Mark f) s e =
    let held = if_some (is_voted g (mark_by f.body.s) facts) e in
    subst (λ (t : ℕ). is_voted g (mark_by t) facts ≡ true) held.1 held.0
mark_voted g facts (fact.Prepare f) s e = absurd (none_some e)
mark_voted g facts (fact.Commit f) s e = absurd (none_some e)
mark_voted g facts (fact.Rows rows) s e = absurd (none_some e)
mark_voted g facts (fact.Proposal v t rows) s e = absurd (none_some e)
mark_voted g facts (fact.Plan v plan) s e = absurd (none_some e)

stable_shown : (g : Group) (facts : List OrderFact) → IsShown g facts (stable g facts)
unfolding stable
stable_shown g facts = by_list (filter_map (number_marked g facts) facts) refl
  where
    by_list : (xs : List ℕ) → filter_map (number_marked g facts) facts ≡ xs →
        IsShown g facts (greatest_of (filter_map (number_marked g facts) facts))
    by_list [] e = inl (ap greatest_of e)
    by_list (x ∷ xs) e = inr (
        let member = greatest_in {x = x} (filter_map (number_marked g facts) facts)
        (subst (λ (ys : List ℕ). IsIn x ys) (sym e) (here xs)) in
        let found = in_filter_map_from (number_marked g facts) facts member in
        mark_voted g facts found.0 _ found.2)

-- a mark in its place shows a number that there is
mark_within : (g : Group) (facts : List OrderFact) (x : OrderFact) → FactPlaced g x →
    or_zero (number_marked g facts x) ≤ most_number
mark_within g facts (fact.Mark f) placed = shown_low (is_voted g (mark_by f.body.s) facts) f.body.s most_number
    (number_bounds f.body.s placed.0).1
mark_within g facts (fact.Prepare f) placed = omega arith
mark_within g facts (fact.Commit f) placed = omega arith
mark_within g facts (fact.Rows rows) placed = omega arith
mark_within g facts (fact.Proposal v s rows) placed = omega arith
mark_within g facts (fact.Plan v plan) placed = omega arith

stable_within : (g : Group) (facts : List OrderFact) → Each (FactPlaced g) facts →
    nat_le (stable g facts) most_number ≡ true
unfolding stable
stable_within g facts placed =
    le-leb _ most_number (each_below (number_marked g facts) most_number facts
    (λ x h. mark_within g facts x (placed x h)))

zero_step : nat_eq (0 % mark_step) 0 ≡ true
unfolding mark_step
zero_step = refl

marks_exact : (g : Group) (facts : List OrderFact) (base : ℕ) → IsShown g facts base →
    nat_eq (length (marks_for g facts base)) (cond (nat_eq base 0) 0 g.q) ≡ true
marks_exact g facts base shown = by_base (nat_eq base 0) refl
  where
    by_base : (b : Bool) → nat_eq base 0 ≡ b →
        nat_eq (length (cond b [] (quorum_of g (mark_by base) facts))) (cond b 0 g.q) ≡ true
    by_base true e = refl
    by_base false e = elim shown [
      | inl none ↦ absurd (true≢false (sym (eq-eqb base 0 none) ∙ e))
      | inr voted ↦ quorum_exact g (mark_by base) facts voted
    ]

marks_alike : (g : Group) (facts : List OrderFact) (base : ℕ) →
    list_all (λ m. nat_eq m.body.s base) (marks_for g facts base) ≡ true
marks_alike g facts base = by_base (nat_eq base 0)
  where
    by_base : (b : Bool) → list_all (λ m. nat_eq m.body.s base) (cond b [] (quorum_of g (mark_by base) facts)) ≡ true
    by_base true = refl
    by_base false = quorum_alike g (mark_by base) facts _ (λ m f x e. eq-eqb x.body.s base (mark_by_at base m f x e).2)

module _ (g : Group) (some : 1 ≤ g.q) (facts : List OrderFact) (placed : Each (FactPlaced g) facts) where
  base_step : (base : ℕ) → IsShown g facts base → nat_eq (base % mark_step) 0 ≡ true
  base_step base shown = elim shown [
    | inl none ↦ subst (λ (x : ℕ). nat_eq (x % mark_step) 0 ≡ true) (sym none) zero_step
    | inr voted ↦ voted_mark g some facts placed base voted
  ]

  certificate_placed : (v s w : ℕ) (rows : List (List ℕ)) → IsIn s (numbers_from (stable g facts + 1) window) →
      w < v → least_prepared g facts w s ≡ Some rows
      → certificate_in_place g (stable g facts) v (certificate_of g facts s w rows) ≡ true
  certificate_placed v s w rows h lower e =
      let candidates : List (List (List ℕ)) = filter (λ rows. is_voted g (prepare_by w s (digest_of_rows rows)) facts)
      (rows_known facts) in
      let member = in_filter_from (λ rows. is_voted g (prepare_by w s (digest_of_rows rows)) facts) (rows_known facts)
      (best_in (λ a b. digest_below (digest_of_rows a) (digest_of_rows b)) candidates e) in
      let bounds = from_bounds (stable g facts + 1) window s h in
      let low : stable g facts + 1 ≤ s = bounds.0 in
      let high : s < stable g facts + 1 + window = bounds.1 in
      let number = number_bounds s (voted_prepare g some facts placed w s (digest_of_rows rows) member.1).1 in
      and_from _ _ (and_from _ _ (and_from _ _ (and_from _ _ (and_from _ _ (and_from _ _
      (lt-ltb (stable g facts) s (omega arith)) (le-leb s (stable g facts + window) (omega arith)))
      (le-leb s most_number number.1)) (lt-ltb w v lower))
      (rows_placed g facts placed rows member.0))
      (quorum_exact g (prepare_by w s (digest_of_rows rows)) facts member.1))
      (prepares_alike g w s (digest_of_rows rows) facts)

  certificates_placed : (v : ℕ) → list_all (certificate_in_place g (stable g facts) v)
      (certificates_below g facts v) ≡ true
  certificates_placed v = all_from (certificate_in_place g (stable g facts) v) (certificates_below g facts v) (λ c h.
      let found = certificate_from g facts v c h in
      subst (λ (d : Certificate). certificate_in_place g (stable g facts) v d ≡ true) found.6
      (certificate_placed v found.0 found.1 found.2 found.3 found.4 found.5))

  pub report_placed : (me : ℕ) (known : List (Signed Body)) (said : List Body) → is_view (view g known) ≡ true
      → Each (WordPlaced g me) (report_due g known said (stable g facts) (marks_for g facts (stable g facts))
      (certificates_below g facts (view g known)))
  report_placed me known said within = each_if (WordPlaced g me) _ _ [] (λ holds.
      let base : ℕ = stable g facts in
      let shown = stable_shown g facts in
      each_one (WordPlaced g me)
      (body.Report record {
        v = view g known;
        base = stable g facts;
        marks = marks_for g facts (stable g facts);
        certificates = certificates_below g facts (view g known);
      })
      (and_from _ _ (and_from _ _ (and_from _ _ (and_from _ _ (and_from _ _ (and_from _ _
      (and_parts _ _ (and_parts _ _ holds).0).0 within) (base_step base shown)) (stable_within g facts placed))
      (marks_exact g facts base shown)) (marks_alike g facts base))
      (certificates_placed (view g known))))
      (λ _. each_none (WordPlaced g me))

reports_alike : (g : Group) (known : List (Signed Body)) (v : ℕ) →
    list_all (λ r. nat_eq r.body.v v) (take g.q (first_reports g known v)) ≡ true
reports_alike g known v = all_from _ (take g.q (first_reports g known v)) (λ r h.
    let master = in_filter_map_from (λ m. first_of_list (filter_map (report_by v m) known)) (numbers_below g.n)
    (in_take g.q (first_reports g known v) h) in
    eq-eqb r.body.v v (report_from g known v master.0 r master.2).2)

pub new_view_placed : (g : Group) (me : ℕ) (known : List (Signed Body)) (said : List Body) →
    is_view (view g known) ≡ true → Each (WordPlaced g me) (new_view_due g me known said)
new_view_placed g me known said within = each_if (WordPlaced g me) _ _ [] (λ holds.
    let enough = and_parts _ _ (and_parts _ _ holds).0 in
    let leads = and_parts _ _ enough.0 in
    let first : List (Signed Report) = first_reports g known (view g known) in
    each_one (WordPlaced g me)
    (body.NewView record { v = view g known; reports = take g.q (first_reports g known (view g known)) })
    (and_from _ _ (and_from _ _ (and_from _ _ (and_from _ _ leads.0 within) leads.1)
    (eq-eqb _ _ (length-take-le g.q first (leb-true g.q (length first) enough.1))))
    (reports_alike g known (view g known))))
    (λ _. each_none (WordPlaced g me))
