-- What words in their places tell the global order is within its limits.
use Rattle.std.proofs.Common.{◌≡◌, ℕ, ◌+◌, ◌-◌, ◌%◌, ◌<◌, ◌≤◌, Bool, true, false, cond, ◌&&◌, List, [], ◌∷◌, Option}
use Rattle.std.proofs.Common.{Some, None, length, map, filter, nat_eq, nat_le, refl, ◌∙◌, subst, arith, eqb-true}
use Rattle.std.specs.Prelude.{slice_get}
use Rattle.std.specs.List.{list_all, filter_map, find}
use Rattle.std.proofs.lemmas.Bool.{and_from, and_parts, leb-true, leb-false, eq-eqb}
use Rattle.std.proofs.lemmas.List.{length-map}
use Rattle.plain_lists.specs.Lists.{IsIn, here, Each}
use Rattle.plain_lists.proofs.Members.{each_none, each_one, each_map, each_flat_map, in_map, in_flat_map, in_flat_map_from, in_filter_from, in_filter_map_from, find_some, some_same, none_some}
use Rattle.protocol_rules.proofs.FirstMet.{first_in}
use Rattle.quorum_sets.specs.Masters.{numbers_below}
use Rattle.message_types.specs.declared.signed.Signed.{Signed}
use Rattle.message_types.specs.declared.preordering.PoSummary.{PoSummary}
use Rattle.message_types.specs.declared.ordering.Certificate.{Certificate}
use Rattle.message_types.specs.declared.views.Plan.{Plan}
use Rattle.message_types.specs.declared.views.Report.{Report}
use Rattle.message_types.specs.declared.body.Body.{Body}
use Rattle.message_types.specs.declared.body.Body.TheVariants as body
use Rattle.message_types.specs.Parts.{inside_report, as_frame}
use Rattle.protocol_rules.specs.declared.facts.OrderFact.{OrderFact}
use Rattle.protocol_rules.specs.declared.facts.OrderFact.TheVariants as fact
use Rattle.protocol_rules.specs.Words.{numbers_from, first_of_list}
use Rattle.protocol_rules.specs.Group.{Group, most_number, mark_step}
use Rattle.protocol_rules.specs.Places.{in_place, report_in_place, certificate_in_place, are_rows, is_row, is_view}
use Rattle.protocol_rules.specs.Places.{is_number}
use Rattle.protocol_rules.specs.Matrix.{rows_of_frames}
use Rattle.protocol_rules.specs.Facts.{facts_of, tells, rows_in, rows_known}
use Rattle.protocol_rules.specs.Plans.{plan_of, planned, chosen, certificates_of, no_rows, goes_before, base_of}
use Rattle.protocol_rules.specs.Plans.{last_of, first_plan}
use Rattle.protocol_rules.specs.Order.{ordered, plan_in, plan_known, proposal_in, offered}
use Rattle.agreement.proofs.FramesInside.{Closed, best_in}
use Rattle.agreement.proofs.LearnedInPlace.{ordered_from}
use Rattle.agreement.proofs.SpokenByKind.{if_some}
use Rattle.agreement.proofs.PlannedRows.{plan_in_from}
use Rattle.words_in_place.proofs.Limits.{all_from, all_each, number_from, greatest_of-within, slice_in}
use Rattle.quorum_sets.proofs.Numbered.{length-numbers_below}
use Rattle.protocol_rules.proofs.Numbers.{length-numbers_from}

abbrev pub AreRows : Group → List (List ℕ) → Type 0
AreRows g rows = are_rows g rows ≡ true

abbrev pub PlanPlaced : Group → Plan → Type 0
PlanPlaced g plan = Each (AreRows g) plan.rows × (plan.base + length plan.rows ≤ most_number)

-- what a fact says that a word in its place tells
abbrev pub FactPlaced : Group → OrderFact → Type 0
FactPlaced g (fact.Prepare f) = (is_view f.body.v ≡ true) × (is_number f.body.s ≡ true)
FactPlaced g (fact.Commit f) = (is_view f.body.v ≡ true) × (is_number f.body.s ≡ true)
FactPlaced g (fact.Mark f) = (is_number f.body.s ≡ true) × (nat_eq (f.body.s % mark_step) 0 ≡ true)
FactPlaced g (fact.Rows rows) = AreRows g rows
FactPlaced g (fact.Proposal v s rows) = (is_number s ≡ true) × AreRows g rows
FactPlaced g (fact.Plan v plan) = PlanPlaced g plan

row_full : (g : Group) (row : List ℕ) → nat_eq (length row) g.n ≡ true →
    list_all (λ x. nat_le x most_number) row ≡ true → is_row g row ≡ true
row_full g row len small = by_length (nat_eq (length row) 0)
  where
    by_length : (b : Bool) → cond b true (nat_eq (length row) g.n && list_all (λ x. nat_le x most_number) row) ≡ true
    by_length true = refl
    by_length false = and_from _ _ len small

row_found : (g : Group) (frames : List (Signed PoSummary)) (j : ℕ) → Each (λ f. is_row g f.body.numbers ≡ true) frames
    → is_row g (elim (find (λ f. nat_eq f.signer j) frames) [ None ↦ [] | Some f ↦ f.body.numbers ]) ≡ true
row_found g frames j placed = by_found (find (λ f. nat_eq f.signer j) frames) refl
  where
    by_found : (o : Option (Signed PoSummary)) → find (λ f. nat_eq f.signer j) frames ≡ o →
        is_row g (elim o [ None ↦ [] | Some f ↦ f.body.numbers ]) ≡ true
    by_found None e = refl
    by_found (Some f) e = placed f (find_some (λ f. nat_eq f.signer j) frames e).0

-- one row for each master
rows_by_master : (g : Group) (row : ℕ → List ℕ) → ((j : ℕ) → is_row g (row j) ≡ true) →
    AreRows g (map row (numbers_below g.n))
rows_by_master g row each =
    and_from _ _ (eq-eqb _ _ (length-map (numbers_below g.n) row ∙ length-numbers_below g.n))
    (all_from (is_row g) (map row (numbers_below g.n))
    (each_map (λ r. is_row g r ≡ true) row (numbers_below g.n) (λ j _. each j)))

frames_placed : (g : Group) (frames : List (Signed PoSummary)) → Each (λ f. is_row g f.body.numbers ≡ true) frames →
    AreRows g (rows_of_frames g frames)
unfolding rows_of_frames
frames_placed g frames placed = rows_by_master g _ (λ j. row_found g frames j placed)

-- of a report in its place: its base, and its certificates' rows and numbers, are within the limits
report_base : (g : Group) (r : Report) → report_in_place g r ≡ true → r.base ≤ most_number
report_base g r h = leb-true r.base most_number
    (and_parts _ _ (and_parts _ _ (and_parts _ _ (and_parts _ _ h).0).0).0).1

report_certificate : (g : Group) (r : Report) (c : Certificate) → report_in_place g r ≡ true → IsIn c r.certificates →
    AreRows g c.rows × (c.s ≤ most_number)
report_certificate g r c h within =
    let a = and_parts _ _ (all_each (certificate_in_place g r.base r.v) r.certificates (and_parts _ _ h).1 c within) in
    let b = and_parts _ _ a.0 in
    let rows = and_parts _ _ b.0 in
    let lower = and_parts _ _ rows.0 in
    let small = and_parts _ _ lower.0 in
    (rows.1, leb-true c.s most_number small.1)

module _ (g : Group) (reports : List Report) (placed : Each (λ r. report_in_place g r ≡ true) reports) where
  certificate_placed : (c : Certificate) → IsIn c (certificates_of reports) → AreRows g c.rows × (c.s ≤ most_number)
  certificate_placed c h = let found = in_flat_map_from (λ (r : Report). r.certificates) reports h in
      report_certificate g found.0 c (placed found.0 found.1) found.2

  planned_placed : (s : ℕ) → AreRows g (planned g reports s)
  unfolding chosen
  planned_placed s = by_chosen (chosen reports s) refl
    where
      by_chosen : (o : Option Certificate) → chosen reports s ≡ o →
          AreRows g (elim o [ Some c ↦ c.rows | None ↦ no_rows g ])
      by_chosen None e = rows_by_master g (λ j. []) (λ j. refl)
      by_chosen (Some c) e =
          let candidates : List Certificate = filter (λ c. nat_eq c.s s) (certificates_of reports) in
          (certificate_placed c (in_filter_from (λ c. nat_eq c.s s) (certificates_of reports)
          (best_in goes_before candidates e)).0).0

  base_within : base_of reports ≤ most_number
  base_within = greatest_of-within most_number _
      (each_map (λ (x : ℕ). x ≤ most_number) (λ (r : Report). r.base) reports (λ r h. report_base g r (placed r h)))

  last_within : last_of reports ≤ most_number
  last_within = greatest_of-within most_number _ (each_map (λ (x : ℕ). x ≤ most_number) (λ (c : Certificate). c.s)
      (certificates_of reports) (λ c h. (certificate_placed c h).1))

  plan_placed : PlanPlaced g (plan_of g reports)
  unfolding plan_of
  plan_placed =
      let len : length (map (planned g reports)
      (numbers_from (base_of reports + 1) (last_of reports - base_of reports))) ≡ last_of
      reports - base_of reports =
      length-map (numbers_from (base_of reports + 1) (last_of reports - base_of reports)) (planned g reports)
      ∙ length-numbers_from (base_of reports + 1) (last_of reports - base_of reports) in
      let low : base_of reports ≤ most_number = base_within in
      let high : last_of reports ≤ most_number = last_within in
      (each_map (AreRows g) (planned g reports) _ (λ s _. planned_placed s), omega arith)

module _ (g : Group) (known : List (Signed Body)) (closed : Closed known)
    (placed : Each (λ p. in_place g p ≡ true) known) where
  -- what is asked of a master's word besides its signer
  tells_placed : (signer : ℕ) (word : Body) (sig : List ℕ) →
      IsIn record { signer = signer; body = word; sig = sig } known →
      Each (FactPlaced g) (tells g record { signer = signer; body = word; sig = sig })
  tells_placed signer (body.PrePrepare b) sig h =
      let word = and_parts _ _ (placed record { signer = signer; body = body.PrePrepare b; sig = sig } h) in
      let number = and_parts _ _ (and_parts _ _ word.1).0 in
      each_one (FactPlaced g) (fact.Proposal b.v b.s (rows_of_frames g b.frames)) (
        number.1,
        frames_placed g b.frames (λ f k.
            let summary = and_parts _ _
            (placed (as_frame body.PoSummary f)
            (closed record { signer = signer; body = body.PrePrepare b; sig = sig } (as_frame body.PoSummary f) h
            (in_map (as_frame body.PoSummary) k))) in
            let numbers = and_parts _ _ summary.1 in
            row_full g f.body.numbers numbers.0 numbers.1),
      )
  tells_placed signer (body.Prepare b) sig h =
      each_one (FactPlaced g) (fact.Prepare record { signer = signer; body = b; sig = sig })
      (and_parts _ _ (and_parts _ _ (placed record { signer = signer; body = body.Prepare b; sig = sig } h)).1)
  tells_placed signer (body.Commit b) sig h =
      each_one (FactPlaced g) (fact.Commit record { signer = signer; body = b; sig = sig })
      (and_parts _ _ (and_parts _ _ (placed record { signer = signer; body = body.Commit b; sig = sig } h)).1)
  tells_placed signer (body.Mark b) sig h =
      each_one (FactPlaced g) (fact.Mark record { signer = signer; body = b; sig = sig })
      (and_parts _ _ (and_parts _ _ (placed record { signer = signer; body = body.Mark b; sig = sig } h)).1)
  tells_placed signer (body.Report b) sig h = each_map (FactPlaced g) (λ c. fact.Rows c.rows) b.certificates (λ c k.
      (report_certificate g b c
      (and_parts _ _ (placed record { signer = signer; body = body.Report b; sig = sig } h)).1 k).0)
  tells_placed signer (body.GiveOrdered b) sig h =
      let word = and_parts _ _ (placed record { signer = signer; body = body.GiveOrdered b; sig = sig } h) in
      each_one (FactPlaced g) (fact.Rows b.rows) (and_parts _ _ (and_parts _ _ (and_parts _ _ word.1).0).0).1
  tells_placed signer (body.NewView b) sig h =
      each_one (FactPlaced g) (fact.Plan b.v (plan_of g (map (λ r. r.body) b.reports)))
      (plan_placed g (map (λ r. r.body) b.reports)
      (each_map (λ r. report_in_place g r ≡ true) (λ r. r.body) b.reports (λ frame k.
      (and_parts _ _ (placed (as_frame body.Report frame)
      (closed record { signer = signer; body = body.NewView b; sig = sig } (as_frame body.Report frame) h
      (in_flat_map (λ (f : Signed Report). as_frame body.Report f ∷ inside_report f.body) k
      (here (inside_report frame.body)))))).1)))
  tells_placed signer _ sig h = each_none (FactPlaced g)

  pub facts_placed : Each (FactPlaced g) (facts_of g known)
  unfolding facts_of
  facts_placed = each_flat_map (FactPlaced g) (tells g) known (λ p h. tells_placed p.signer p.body p.sig h)

rows_in_placed : (g : Group) (x : OrderFact) → FactPlaced g x → Each (AreRows g) (rows_in x)
rows_in_placed g (fact.Rows rows) h = each_one (AreRows g) rows h
rows_in_placed g (fact.Proposal v s rows) h = each_one (AreRows g) rows h.1
rows_in_placed g (fact.Plan v plan) h = h.0
rows_in_placed g _ h = each_none (AreRows g)

proposal_in_from : (v s : ℕ) (x : OrderFact) (rows : List (List ℕ)) → proposal_in v s x ≡ Some rows →
    x ≡ fact.Proposal v s rows
proposal_in_from v s (fact.Proposal w t rs) rows e =
    let held = if_some (nat_eq w v && nat_eq t s) e in
    let both = and_parts (nat_eq w v) (nat_eq t s) held.0 in
    λ x. fact.Proposal ((eqb-true w v both.0) x) ((eqb-true t s both.1) x) (held.1 x)
proposal_in_from v s _ rows e = absurd (none_some e)

module _ (g : Group) (facts : List OrderFact) (placed : Each (FactPlaced g) facts) where
  pub rows_placed : Each (AreRows g) (rows_known facts)
  unfolding rows_known
  rows_placed = each_flat_map (AreRows g) rows_in facts (λ x h. rows_in_placed g x (placed x h))

  pub ordered_placed : (s : ℕ) (rows : List (List ℕ)) → ordered g facts s ≡ Some rows → AreRows g rows
  ordered_placed s rows e = rows_placed rows (ordered_from g facts s rows e).0

  first_placed : PlanPlaced g first_plan
  first_placed = (each_none (AreRows g), omega arith)

  pub plan_known_placed : (v : ℕ) (plan : Plan) → plan_known facts v ≡ Some plan → PlanPlaced g plan
  plan_known_placed v plan e = by_view (nat_eq v 0) e
    where
      by_view : (b : Bool) → cond b (Some first_plan) (first_of_list (filter_map (plan_in v) facts)) ≡ Some plan →
          PlanPlaced g plan
      by_view true same = subst (PlanPlaced g) (some_same same) first_placed
      by_view false first =
          let found = in_filter_map_from (plan_in v) facts (first_in (filter_map (plan_in v) facts) first) in
          subst (FactPlaced g) (plan_in_from v found.0 plan found.2) (placed found.0 found.1)

  pub offered_placed : (v s : ℕ) (rows : List (List ℕ)) → offered facts v s ≡ Some rows →
      AreRows g rows × (is_number s ≡ true)
  unfolding offered
  offered_placed v s rows e = by_plan (plan_known facts v) refl e
    where
      by_base : (plan : Plan) (b c : Bool) → PlanPlaced g plan → nat_le s plan.base ≡ b →
          nat_le s (plan.base + length plan.rows) ≡ c
          → cond b None (cond c (slice_get plan.rows (s - plan.base - 1))
          (first_of_list (filter_map (proposal_in v s) facts))) ≡ Some rows → AreRows g rows × (is_number s ≡ true)
      by_base plan true c well low upto e = absurd (none_some e)
      by_base plan false true well low upto e =
          let above : plan.base < s = leb-false s plan.base low in
          let below : s ≤ plan.base + length plan.rows = leb-true s (plan.base + length plan.rows) upto in
          let ends : plan.base + length plan.rows ≤ most_number = well.1 in
          (well.0 rows (slice_in plan.rows (s - plan.base - 1) e), number_from s (omega arith) (omega arith))
      by_base plan false false well low upto e =
          let found = in_filter_map_from (proposal_in v s) facts (first_in (filter_map (proposal_in v s) facts) e) in
          let told = subst (FactPlaced g) (proposal_in_from v s found.0 rows found.2) (placed found.0 found.1) in
          (told.1, told.0)

      by_plan : (o : Option Plan) → plan_known facts v ≡ o
          → (elim o [
            | None ↦ None
            | Some plan ↦ cond (nat_le s plan.base) None
                (cond (nat_le s (plan.base + length plan.rows)) (slice_get plan.rows (s - plan.base - 1))
                (first_of_list (filter_map (proposal_in v s) facts)))
          ]) ≡ Some rows
          → AreRows g rows × (is_number s ≡ true)
      by_plan None is e = absurd (none_some e)
      by_plan (Some plan) is e = by_base plan (nat_le s plan.base) (nat_le s (plan.base + length plan.rows))
          (plan_known_placed v plan is) refl refl e
