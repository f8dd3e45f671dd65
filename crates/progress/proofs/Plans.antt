-- The plan of a view is one: each new view that a correct master knows is of the view's leader, and a correct leader opens a
-- view once. Where a view is open its plan is known.
use Rattle.std.proofs.Common.{◌≡◌, ℕ, ◌+◌, ◌≤◌, zero, suc, Bool, true, false, cond, ◌&&◌, not, List, [], ◌∷◌, ◌++◌}
use Rattle.std.proofs.Common.{Option, Some, None, length, map, take, nat_eq, nat_lt, nat_le, refl, sym, ◌∙◌, ap, subst, inl, inr}
use Rattle.std.proofs.Common.{arith, eqb-true}
use Rattle.std.proofs.lemmas.Bool.{false≢true, and_parts, or_cases, cases_eq, eq-eqb, ne_eqb}
use Rattle.std.specs.Option.{is_some}
use Rattle.std.specs.List.{list_any, list_all, filter_map, flat_map}
use Rattle.plain_lists.specs.Lists.{IsIn, here, Within}
use Rattle.plain_lists.proofs.Members.{none_in, in_cons_cases, in_cases, in_filter, in_filter_map, in_filter_map_from, in_flat_map}
use Rattle.plain_lists.proofs.Members.{any_from, any_in, all_at, some_same}
use Rattle.message_types.specs.declared.signed.Signed.{Signed}
use Rattle.message_types.specs.declared.views.NewView.{NewView}
use Rattle.message_types.specs.declared.views.Report.{Report}
use Rattle.message_types.specs.declared.views.Plan.{Plan}
use Rattle.message_types.specs.declared.body.Body.{Body}
use Rattle.message_types.specs.declared.body.Body.TheVariants as body
use Rattle.message_types.specs.Parts.{parts}
use Rattle.message_types.specs.Spelling.{has_spelling}
use Rattle.message_types.specs.Texts.{body_text}
use Rattle.protocol_rules.specs.declared.facts.OrderFact.{OrderFact}
use Rattle.protocol_rules.specs.declared.facts.OrderFact.TheVariants as fact
use Rattle.protocol_rules.specs.Words.{first_of_list}
use Rattle.protocol_rules.specs.Group.{Group, is_live, leader_of}
use Rattle.protocol_rules.specs.Facts.{tells, facts_of}
use Rattle.protocol_rules.specs.Order.{plan_in, plan_known}
use Rattle.protocol_rules.specs.Places.{in_place}
use Rattle.protocol_rules.specs.Plans.{first_plan, plan_of}
use Rattle.protocol_rules.specs.Views.{view, is_open, is_opened, first_reports, new_view_in}
use Rattle.protocol_rules.specs.Views.{new_views_said, new_view_due}
use Rattle.protocol_rules.specs.Master.{said_before, taken_frames}
use Rattle.protocol_rules.proofs.FirstMet.{first_in, first_there}
use Rattle.history_rules.specs.Events.{Event, Took, Entry, frame_taken, is_tick, is_silent}
use Rattle.history_rules.specs.Setup.{Setup, is_correct, is_correct_master, stands}
use Rattle.history_rules.specs.Legal.{Stands, IsLegal, TakesWell, heard}
use Rattle.history_rules.specs.Audit.{HasSaid, NothingForged}
use Rattle.agreement.specs.Laws.{known_by}
use Rattle.agreement.proofs.Places.{stands_cases}
use Rattle.agreement.proofs.KnownAsItGrows.{known_then, learned_by, correct_said, said_earlier}
use Rattle.agreement.proofs.FramesInside.{fact_from}
use Rattle.agreement.proofs.LearnedWasSaid.{learned_all, learned_said}
use Rattle.agreement.proofs.PlannedRows.{plan_in_from}
use Rattle.agreement.proofs.RequestsAgree.{known_in}
use Rattle.words_by_part.specs.Kinds.{is_of, changing_views}
use Rattle.words_by_part.proofs.Answering.{answers_by_live_part}
use Rattle.progress.specs.UnderLeader.{PlansAgree}
use Rattle.progress.proofs.Certifying.{correct_too}
use Rattle.progress.proofs.Proposing.{in_if}

-- the new view that a leader opens, where it opens one
abbrev opening : Group → List (Signed Body) → NewView
opening g known = record { v = view g known; reports = take g.q (first_reports g known (view g known)) }

view_same : {a b : NewView} → body.NewView a ≡ body.NewView b → a ≡ b
view_same e = cc

view_report : {a : NewView} {b : Report} → body.NewView a ≡ body.Report b → ⊥
view_report e = cc

-- a leader opens its view, and did not before
record Opens (g : Group) (me : ℕ) (known : List (Signed Body)) (said : List Body) (b : NewView) : Type 0 where
  leads : me ≡ leader_of g (view g known)
  is : b ≡ opening g known
  fresh : list_any (new_views_said (view g known)) said ≡ false

not_true : (b : Bool) → not b ≡ true → b ≡ false
not_true true e = absurd (false≢true e)
not_true false e = refl

opening_due : (g : Group) (me : ℕ) (known : List (Signed Body)) (said : List Body) (report : Report) (c : Bool) (b : NewView) →
    IsIn (body.NewView b) (cond c (body.Report report ∷ []) [] ++ new_view_due g me known said) → Opens g me known said b
opening_due g me known said report c b h = elim (in_cases (cond c (body.Report report ∷ []) []) h) [
  | inl reports ↦ elim (in_cons_cases (in_if c (body.Report report ∷ []) reports).1) [
    | inl same ↦ absurd (view_report same)
    | inr none ↦ absurd (none_in none)
  ]
  | inr opens ↦
      let due = in_if (nat_le 1 (view g known) && nat_eq me (leader_of g (view g known))
      && nat_le g.q (length (first_reports g known (view g known)))
      && not (list_any (new_views_said (view g known)) said)) (body.NewView (opening g known) ∷ []) opens in
      let fresh = and_parts _ (not (list_any (new_views_said (view g known)) said)) due.0 in
      let many = and_parts _ (nat_le g.q (length (first_reports g known (view g known)))) fresh.0 in
      let leads = and_parts (nat_le 1 (view g known)) (nat_eq me (leader_of g (view g known))) many.0 in
      elim (in_cons_cases due.1) [
        | inl same ↦ record {
          leads = eqb-true me (leader_of g (view g known)) leads.1;
          is = view_same same;
          fresh = not_true (list_any (new_views_said (view g known)) said) fresh.1;
        }
        | inr none ↦ absurd (none_in none)
      ]
]

-- A new view that a correct master said was due.
opened : (w : Setup) {history before : List Entry} {e : Entry} (m : ℕ) (b : NewView) → is_live w.group ≡ true
    → IsLegal w history → Stands history before e → e.actor ≡ m → is_correct_master w m ≡ true
    → IsIn (body.NewView b) e.said → (is_silent e.event ≡ false)
    × Opens w.group m (known_then w before m e) (said_before (heard w before m)) b
opened w {before = before} {e} m b live legal s by correct among =
    let due = correct_said w m (body.NewView b) legal s by correct among in
    let by_part = answers_by_live_part w.group w.orders m (heard w before m) (frame_taken e.event) (is_tick e.event) live in (
      due.0,
      opening_due w.group m (known_then w before m e) (said_before (heard w before m)) _ _ b
          (subst (λ (bs : List Body). IsIn (body.NewView b) bs) by_part.views (in_filter (is_of changing_views) due.1 refl)),
    )

-- A correct leader opens a view once.
pub opens_once : (w : Setup) (history : List Entry) (m : ℕ) → is_live w.group ≡ true → IsLegal w history →
    is_correct_master w m ≡ true → (a b : NewView) → HasSaid history m (body.NewView a) → HasSaid history m (body.NewView b)
    → a.v ≡ b.v → a ≡ b
opens_once w history m live legal correct a b one other same_v =
    let due_a = opened w m a live legal one.place one.by correct one.among in
    let due_b = opened w m b live legal other.place other.by correct other.among in
    elim (stands_cases one.place other.place) [
      | inl alike ↦
          let same : known_then w one.before m one.entry ≡ known_then w other.before m other.entry =
          ap (λ (xs : List Entry). known_then w xs m one.entry) alike.0 ∙ ap (known_then w other.before m) alike.1 in
          due_a.1.is ∙ ap (opening w.group) same ∙ sym due_b.1.is
      | inr apart ↦ elim apart [
        | inl earlier ↦ absurd (again a b other (λ h. said_earlier w m (body.NewView a) earlier one.by due_a.0 h) one.among same_v
            due_b.1)
        | inr later ↦ absurd (again b a one (λ h. said_earlier w m (body.NewView b) later other.by due_b.0 h) other.among
            (sym same_v) due_a.1)
      ]
    ]
  where
    again : (a b : NewView) (said : HasSaid history m (body.NewView b)) {words : List Body} →
        (IsIn (body.NewView a) words → IsIn (body.NewView a) (said_before (heard w said.before m)))
        → IsIn (body.NewView a) words → a.v ≡ b.v
        → Opens w.group m (known_then w said.before m said.entry) (said_before (heard w said.before m)) b → ⊥
    again a b said earlier h same_v opens =
        let of_view : a.v ≡ view w.group (known_then w said.before m said.entry) = same_v ∙ ap (λ (x : NewView). x.v) opens.is in
        false≢true (sym opens.fresh ∙ any_in (new_views_said (view w.group (known_then w said.before m said.entry))) (earlier h)
        (eq-eqb a.v (view w.group (known_then w said.before m said.entry)) of_view))

-- whoever a new view in its place is of
placed_opener : (g : Group) (signer : ℕ) (word : Body) (sig : List ℕ) (b : NewView) → word ≡ body.NewView b →
    in_place g record { signer = signer; body = word; sig = sig } ≡ true → signer ≡ leader_of g b.v
placed_opener g signer word sig b is placed =
    let here = subst (λ (x : Body). in_place g record { signer = signer; body = x; sig = sig } ≡ true) is placed in
    let views = and_parts _ (list_all (λ r. nat_eq r.body.v b.v) b.reports) (and_parts (nat_lt signer g.n) _ here).1 in
    let count = and_parts _ (nat_eq (length b.reports) g.q) views.0 in
    eqb-true signer (leader_of g b.v) (and_parts _ (nat_eq signer (leader_of g b.v)) count.0).1

taken_opener : (w : Setup) (now : ℕ) (event : Event) → TakesWell w now event → (p : Signed Body) →
    IsIn p (flat_map parts (taken_frames (frame_taken event))) → (b : NewView) → p.body ≡ body.NewView b
    → p.signer ≡ leader_of w.group b.v
unfolding stands
taken_opener w now (Took stamp place frame) well p h b is = elim (in_cases (parts frame) h) [
  | inl part ↦
      let each = (and_parts (has_spelling frame) (list_all (λ p. nat_lt p.signer (w.group.n + w.group.clients)
      && w.signs p.signer (body_text p.body) p.sig && in_place w.group p) (parts frame)) well.0).1 in
      placed_opener w.group p.signer p.body p.sig b is (and_parts _ (in_place w.group p)
      (all_at (λ p. nat_lt p.signer (w.group.n + w.group.clients) && w.signs p.signer (body_text p.body) p.sig
      && in_place w.group p) part each)).1
  | inr none ↦ absurd (none_in none)
]
taken_opener w now _ well p h b is = absurd (none_in h)

-- Each new view that a correct master learned is of its leader.
of_opener : (w : Setup) (i : ℕ) (history : List Entry) → is_live w.group ≡ true → IsLegal w history
    → is_correct_master w i ≡ true → (p : Signed Body) → IsIn p (learned_by w history i) → (b : NewView)
    → p.body ≡ body.NewView b → p.signer ≡ leader_of w.group b.v
of_opener w i history live legal correct = learned_all w i history (λ p. (b : NewView) → p.body ≡ body.NewView b →
    p.signer ≡ leader_of w.group b.v) legal correct
    (λ before e s by p h b is. taken_opener w (length before) e.event (legal.entries before e s).taken p h b is)
    (λ before e s by loud known p signer h due b is.
    let at = (opened w i b live legal s by correct (subst (λ (x : Body). IsIn x e.said) is h)).1 in
    signer ∙ at.leads ∙ ap (leader_of w.group) (sym (ap (λ (x : NewView). x.v) at.is)))

pub positive : (v : ℕ) → (v ≡ 0 → ⊥) → 1 ≤ v
positive zero apart = absurd (apart refl)
positive (suc v) apart = omega arith

pub later_plan : (v : ℕ) (first : Option Plan) (plan : Plan) → 1 ≤ v → cond (nat_eq v 0) (Some first_plan) first ≡ Some plan →
    first ≡ Some plan
later_plan v first plan above e = by (nat_eq v 0) (ne_eqb v 0 (λ same. let zero_is : v ≡ 0 = same in omega (arith, above, zero_is))) e
  where
    by : (b : Bool) → b ≡ false → cond b (Some first_plan) first ≡ Some plan → first ≡ Some plan
    by true is e = absurd (false≢true (sym is))
    by false is e = e

-- the new view that a plan above view 0 is of
pub plan_word : (g : Group) (known : List (Signed Body)) (v : ℕ) (plan : Plan) → 1 ≤ v →
    plan_known (facts_of g known) v ≡ Some plan → (p : Signed Body) × IsIn p known
    × ((b : NewView) × (p.body ≡ body.NewView b) × (b.v ≡ v) × (plan ≡ plan_of g (map (λ r. r.body) b.reports)))
plan_word g known v plan above e =
    let found = in_filter_map_from (plan_in v) (facts_of g known) (first_in (filter_map (plan_in v) (facts_of g known))
    (later_plan v (first_of_list (filter_map (plan_in v) (facts_of g known))) plan above e)) in
    fact_from g known (fact.Plan v plan) (subst (λ (x : OrderFact). IsIn x (facts_of g known))
    (plan_in_from v found.0 plan found.2) found.1)

module _ (w : Setup) (history : List Entry) (v : ℕ) (live : is_live w.group ≡ true) (legal : IsLegal w history)
    (unforged : NothingForged w history) (leads : is_correct_master w (leader_of w.group v) ≡ true) where
  -- who said it
  pub plan_said : (i : ℕ) → is_correct_master w i ≡ true → (known : List (Signed Body)) → Within known (learned_by w history i)
      → (plan : Plan) → 1 ≤ v → plan_known (facts_of w.group known) v ≡ Some plan
      → (b : NewView) × HasSaid history (leader_of w.group v) (body.NewView b) × (b.v ≡ v)
      × (plan ≡ plan_of w.group (map (λ r. r.body) b.reports))
  plan_said i correct known within plan above e =
      let found = plan_word w.group known v plan above e in
      let word = found.2 in
      let signer : found.0.signer ≡ leader_of w.group v = of_opener w i history live legal correct found.0
      (within found.0 found.1) word.0 word.1 ∙ ap (leader_of w.group) word.2 in
      let said : HasSaid history found.0.signer found.0.body = learned_said w i history legal unforged correct found.0
      (within found.0 found.1) (subst (λ (m : ℕ). is_correct w m ≡ true) (sym signer)
      (correct_too w (leader_of w.group v) leads)) in (
        word.0,
        subst (λ (b : Body). HasSaid history (leader_of w.group v) b) word.1
            (subst (λ (m : ℕ). HasSaid history m found.0.body) signer said),
        word.2,
        word.3,
      )

  -- any two correct masters know one plan
  pub plans_same : (i j : ℕ) → is_correct_master w i ≡ true → is_correct_master w j ≡ true → (known more : List (Signed Body))
      → Within known (learned_by w history i) → Within more (learned_by w history j) → (a b : Plan)
      → plan_known (facts_of w.group known) v ≡ Some a → plan_known (facts_of w.group more) v ≡ Some b → a ≡ b
  plans_same i j right_i right_j known more within_i within_j a b one other = elim (cases_eq v 0) [
    | inl zero_view ↦ some_same (sym (ap (plan_known (facts_of w.group known)) (sym zero_view) ∙ one)
        ∙ ap (plan_known (facts_of w.group more)) (sym zero_view) ∙ other)
    | inr apart ↦
        let above : 1 ≤ v = positive v apart in
        let said_a = plan_said i right_i known within_i a above one in
        let said_b = plan_said j right_j more within_j b above other in
        said_a.3 ∙ ap (λ (x : NewView). plan_of w.group (map (λ r. r.body) x.reports)) (opens_once w history
        (leader_of w.group v) live legal leads said_a.0 said_b.0 said_a.1 said_b.1 (said_a.2 ∙ sym said_b.2)) ∙ sym said_b.3
  ]

opened_word : (v signer : ℕ) (word : Body) (sig : List ℕ) → is_some (new_view_in v record { signer = signer; body = word; sig = sig })
    ≡ true → (b : NewView) × (word ≡ body.NewView b) × (b.v ≡ v)
opened_word v signer (body.NewView b) sig e = (b, refl, by record { signer = signer; body = b; sig = sig } (nat_eq b.v v) refl e)
  where
    by : (x : Signed NewView) (c : Bool) → nat_eq b.v v ≡ c → is_some (cond c (Some x) None) ≡ true → b.v ≡ v
    by x true is e = eqb-true b.v v is
    by x false is e = absurd (false≢true e)
opened_word v signer _ sig e = absurd (false≢true e)

told_plan : (g : Group) (known : List (Signed Body)) (p : Signed Body) (b : NewView) → IsIn p known → p.body ≡ body.NewView b →
    IsIn (fact.Plan b.v (plan_of g (map (λ r. r.body) b.reports))) (facts_of g known)
unfolding facts_of
told_plan g known p b among is = in_flat_map (tells g) among (by p.signer p.body p.sig is)
  where
    by : (signer : ℕ) (word : Body) (sig : List ℕ) → word ≡ body.NewView b →
        IsIn (fact.Plan b.v (plan_of g (map (λ r. r.body) b.reports))) (tells g record { signer = signer; body = word; sig = sig })
    by signer word sig is = subst (λ (x : Body). IsIn (fact.Plan b.v (plan_of g (map (λ r. r.body) b.reports)))
        (tells g record { signer = signer; body = x; sig = sig })) (sym is) (here [])

-- where a view is open its plan is known
open_plan : (g : Group) (known : List (Signed Body)) (v : ℕ) → view g known ≡ v → is_open g known ≡ true →
    (plan : Plan) × (plan_known (facts_of g known) v ≡ Some plan)
unfolding is_open
open_plan g known v in_v opens = by (nat_eq v 0) refl
  where
    there_is : is_opened known v ≡ true → (plan : Plan) × (first_of_list (filter_map (plan_in v) (facts_of g known)) ≡ Some plan)
    there_is any =
        let found = any_from (λ f. is_some (new_view_in v f)) known any in
        let word = opened_word v found.0.signer found.0.body found.0.sig found.2 in
        first_there (in_filter_map (plan_in v) (told_plan g known found.0 word.0 found.1 word.1)
        (ap (λ (c : Bool). cond c (Some (plan_of g (map (λ r. r.body) word.0.reports))) None) (eq-eqb word.0.v v word.2)))

    by : (b : Bool) → nat_eq v 0 ≡ b → (plan : Plan)
        × (cond b (Some first_plan) (first_of_list (filter_map (plan_in v) (facts_of g known))) ≡ Some plan)
    by true is = (first_plan, refl)
    by false is = elim (or_cases (nat_eq (view g known) 0) (is_opened known (view g known)) opens) [
      | inl zero_view ↦ absurd (false≢true (sym is ∙ ap (λ (x : ℕ). nat_eq x 0) (sym in_v) ∙ zero_view))
      | inr any ↦ there_is (ap (is_opened known) (sym in_v) ∙ any)
    ]

pub plans_agree : PlansAgree
plans_agree w connected v beginning whole live sound are begins have =
    let leader : ℕ = leader_of w.group v in
    let first = open_plan w.group (known_by w beginning leader) v (have.came leader have.leader) (have.opened leader have.leader) in (
      first.0,
      λ m is_m.
          let own = open_plan w.group (known_by w beginning m) v (have.came m is_m) (have.opened m is_m) in
          own.1 ∙ ap (λ (p : Plan). Some p) (plans_same w whole v live sound.legal sound.unforged
          (are.correct leader have.leader) m leader (are.correct m is_m) (are.correct leader have.leader)
          (known_by w beginning m) (known_by w beginning leader) (known_in w whole beginning m begins)
          (known_in w whole beginning leader begins) own.0 first.0 own.1 first.1),
    )
