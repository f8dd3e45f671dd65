-- What the views of the words known answer, and what the bodies said change.
use Rattle.std.proofs.Common.{◌≡◌, ℕ, zero, suc, ◌+◌, ◌-◌, ◌%◌, ◌<◌, ◌≤◌, Bool, true, false, ◌||◌, ◌&&◌, not, List}
use Rattle.std.proofs.Common.{[], ◌∷◌, ◌++◌, Option, Some, None, length, map, take, nat_eq, nat_le, refl, sym, ◌∙◌}
use Rattle.std.proofs.Common.{ap, arith, if◌then◌else◌, slice_index_or, add-one, length-append}
use mir.Val.{bool_byte}
use Rattle.std.specs.List.{list_any, filter_map, flat_map}
use Rattle.std.specs.Option.{option_map, is_some, option_to_list}
use Rattle.std.proofs.lemmas.Bool.{ne_eqb, le-leb, leb-true, cond-true, cond-false}
use Rattle.std.proofs.Math.Bool.{and-true}
use Rattle.std.proofs.lemmas.List.Elements.{filter_map-append}
use Rattle.std.proofs.lemmas.List.Concat.{flat_map-cons}
use Rattle.message_types.specs.declared.signed.Signed.{Signed}
use Rattle.message_types.specs.declared.ordering.Mark.{Mark}
use Rattle.message_types.specs.declared.ordering.Certificate.{Certificate}
use Rattle.message_types.specs.declared.views.Report.{Report}
use Rattle.message_types.specs.declared.views.NewView.{NewView}
use Rattle.message_types.specs.declared.body.Body.{Body}
use Rattle.message_types.specs.declared.body.Body.TheVariants as body
use Rattle.quorum_sets.specs.Masters.{has_master, numbers_below}
use Rattle.quorum_sets.specs.Quorum.{has_quorum}
use Rattle.protocol_rules.specs.declared.facts.OrderFact.{OrderFact}
use Rattle.protocol_rules.specs.declared.facts.OrderFact.TheVariants as fact
use Rattle.protocol_rules.specs.Words.{first_of_list}
use Rattle.protocol_rules.specs.Group.{Group, most_view, leader_of}
use Rattle.protocol_rules.specs.Plans.{first_plan, plan_of}
use Rattle.protocol_rules.specs.Facts.{tells, facts_of}
use Rattle.protocol_rules.specs.Order.{plan_in, plan_known}
use Rattle.protocol_rules.specs.Views.{view, is_open, is_suspect, is_suspected, is_opened, report_by, new_view_in}
use Rattle.protocol_rules.specs.Views.{first_reports, reports_said, new_views_said, report_due, new_view_due}
use Rattle.view_change.specs.ViewState.{ViewState, AreViewsOf, at_view, at_place, suspects_of, first_report}
use Rattle.view_change.specs.ViewState.{first_new_view, plan_in_new_view, present_reports, is_report_owed}
use Rattle.view_change.specs.ViewState.{is_new_view_owed}
use Rattle.view_change.proofs.Reached.{quorum-same, quorum-none}
use Rattle.protocol_rules.proofs.LimitValues.{most_view-is}
use Rattle.view_change.proofs.Known.{opened-is, plan_there}
use Rattle.quorum_sets.proofs.Numbered.{below_none_at}
use Rattle.quorum_sets.proofs.MastersLemmas.{numbers_below-suc}

-- the plan facts that the words tell are those of the new views
rows_tell : (v : ℕ) (certificates : List Certificate) →
    filter_map (plan_in v) (map (λ c. fact.Rows c.rows) certificates) ≡ []
rows_tell v [] = refl
rows_tell v (c ∷ rest) = rows_tell v rest

new_view_tells : (g : Group) (v signer : ℕ) (b : NewView) (sig : List ℕ) (same : Bool) → nat_eq b.v v ≡ same →
    filter_map (plan_in v) (fact.Plan b.v (plan_of g (map (λ r. r.body) b.reports)) ∷ [])
    ≡ option_to_list (option_map (plan_in_new_view g)
    (if same then Some record { signer = signer; body = b; sig = sig } else None))
new_view_tells g v signer b sig true e = rw e refl
new_view_tells g v signer b sig false e = rw e refl

plan_facts : (g : Group) (v signer : ℕ) (word : Body) (sig : List ℕ)
    → filter_map (plan_in v) (tells g record { signer = signer; body = word; sig = sig }) ≡ option_to_list
    (option_map (plan_in_new_view g) (new_view_in v record { signer = signer; body = word; sig = sig }))
plan_facts g v signer word sig =
    elim word as (λ w. filter_map (plan_in v) (tells g record { signer = signer; body = w; sig = sig }) ≡
    option_to_list (option_map (plan_in_new_view g)
    (new_view_in v record { signer = signer; body = w; sig = sig }))) [
      | body.NewView b ↦ new_view_tells g v signer b sig (nat_eq b.v v) refl
      | body.Report b ↦ rows_tell v b.certificates
      | body.PrePrepare b ↦ refl
      | body.Prepare b ↦ refl
      | body.Commit b ↦ refl
      | body.Mark b ↦ refl
      | body.GiveOrdered b ↦ refl
      | _ ↦ refl
    ]

plans_told : (g : Group) (v : ℕ) (known : List (Signed Body)) →
    first_of_list (filter_map (plan_in v) (flat_map (tells g) known)) ≡ option_map (plan_in_new_view g)
    (first_of_list (filter_map (new_view_in v) known))
plans_told g v [] = refl
plans_told g v (f ∷ rest) =
    ap (λ xs. first_of_list (filter_map (plan_in v) xs)) (flat_map-cons (tells g) f rest)
    ∙ ap first_of_list (filter_map-append (plan_in v) (tells g f) (flat_map (tells g) rest))
    ∙ ap (λ xs. first_of_list (xs ++ filter_map (plan_in v) (flat_map (tells g) rest)))
    (plan_facts g v f.signer f.body f.sig) ∙ at (new_view_in v f) refl (plans_told g v rest)
  where
    at : (o : Option (Signed NewView)) → new_view_in v f ≡ o →
        first_of_list (filter_map (plan_in v) (flat_map (tells g) rest)) ≡ option_map (plan_in_new_view g)
        (first_of_list (filter_map (new_view_in v) rest))
        → first_of_list (option_to_list (option_map (plan_in_new_view g) (new_view_in v f))
        ++ filter_map (plan_in v) (flat_map (tells g) rest)) ≡ option_map (plan_in_new_view g)
        (first_of_list (filter_map (new_view_in v) (f ∷ rest)))
    at None e less = rw e less
    at (Some x) e less = rw e refl

-- the plan known of a view is that of the first new view known of it
pub plan_known-is : (g : Group) (known : List (Signed Body)) (v : ℕ) → nat_eq v 0 ≡ false →
    plan_known (facts_of g known) v ≡ option_map (plan_in_new_view g) (first_new_view known v)
unfolding facts_of first_new_view
plan_known-is g known v later =
    cond-false (nat_eq v 0) (Some first_plan) (first_of_list (filter_map (plan_in v) (flat_map (tells g) known)))
    later ∙ plans_told g v known

pub plan_known-first : (facts : List OrderFact) (v : ℕ) → nat_eq v 0 ≡ true → plan_known facts v ≡ Some first_plan
plan_known-first facts v e = cond-true (nat_eq v 0) (Some first_plan) (first_of_list (filter_map (plan_in v) facts)) e

-- whether the view is open
open-is : (g : Group) (known : List (Signed Body)) →
    is_open g known ≡ (nat_eq (view g known) 0 || is_opened known (view g known))
unfolding is_open
open-is g known = refl

pub first-open : (g : Group) (me : ℕ) (kept : ViewState) (known : List (Signed Body)) (said : List Body) (v : ℕ) →
    v ≡ kept.view → v ≡ 0 → AreViewsOf g me kept known said → true ≡ is_open g known
first-open g me kept known said v e first is =
    sym (open-is g known ∙ ap (λ k. nat_eq k 0 || is_opened known (view g known)) (sym is.view ∙ sym e ∙ first))

pub later-open : (g : Group) (me : ℕ) (kept : ViewState) (known : List (Signed Body)) (said : List Body) (v : ℕ) →
    v ≡ kept.view → (v ≡ 0 → ⊥) → AreViewsOf g me kept known said → is_some (at_view kept.plans v) ≡ is_open g known
later-open g me kept known said v e later is =
    ap is_some (is.plans v) ∙ plan_there (plan_in_new_view g) (first_new_view known v) ∙ sym (opened-is known v)
    ∙ sym (open-is g known ∙ ap (λ k. nat_eq k 0 || is_opened known k) (sym is.view ∙ sym e)
    ∙ ap (λ b. b || is_opened known v) (ne_eqb v 0 later))

-- a report is due where one is owed by what is kept
abbrev pub report_is_due : Group → List (Signed Body) → List Body → ℕ → Bool
report_is_due g known said v = nat_le 1 v && is_suspected g known (v - 1) && not (list_any (reports_said v) said)

pub report_owed-is : (g : Group) (me : ℕ) (kept : ViewState) (known : List (Signed Body)) (said : List Body) →
    AreViewsOf g me kept known said → is_report_owed kept ≡ report_is_due g known said (view g known)
report_owed-is g me kept known said is = at (nat_le 1 kept.view) refl ∙ ap (report_is_due g known said) is.view
  where
    low : kept.view ≤ 255
    low = let le : kept.view ≤ most_view = is.limit in let top : most_view ≡ 255 = most_view-is in omega arith

    at : (b : Bool) → nat_le 1 kept.view ≡ b → is_report_owed kept ≡ report_is_due g known said kept.view
    at false e = ap (λ b. b && has_quorum kept.group.n kept.group.q (has_master (suspects_of kept (kept.view - 1)))
        && not (slice_index_or kept.reported kept.view false)) e
        ∙ sym (ap (λ b. b && is_suspected g known (kept.view - 1) && not (list_any (reports_said kept.view) said)) e)
    at true e =
        let least : 1 ≤ kept.view = leb-true 1 kept.view e in
        let most : kept.view ≤ 255 = low in
        let top : most_view ≡ 255 = most_view-is in
        let before : kept.view - 1 < most_view = omega arith in
        ap (λ n. nat_le 1 kept.view && has_quorum n kept.group.q (has_master (suspects_of kept (kept.view - 1)))
        && not (slice_index_or kept.reported kept.view false)) is.masters
        ∙ ap (λ q. nat_le 1 kept.view && has_quorum g.n q (has_master (suspects_of kept (kept.view - 1)))
        && not (slice_index_or kept.reported kept.view false)) is.quorum
        ∙ ap (λ b. nat_le 1 kept.view && b && not (slice_index_or kept.reported kept.view false))
        (quorum-same g.n g.q (has_master (suspects_of kept (kept.view - 1)))
        (λ j. list_any (is_suspect (kept.view - 1) j) known) (λ j few. is.suspects (kept.view - 1) j before few))
        ∙ ap (λ b. nat_le 1 kept.view && is_suspected g known (kept.view - 1) && not b)
        (is.reported kept.view (omega arith))

none_due : {X : Type 0} (b : Bool) (x : X) → b ≡ false → [] ≡ (if b then x ∷ [] else [])
none_due b x e = sym (cond-false b (x ∷ []) [] e)

one_due : {X : Type 0} (b : Bool) (x : X) → b ≡ true → x ∷ [] ≡ (if b then x ∷ [] else [])
one_due b x e = sym (cond-true b (x ∷ []) [] e)

abbrev pub report_with : ℕ → ℕ → List (Signed Mark) → List Certificate → Body
report_with v base marks certificates =
    body.Report record { v = v; base = base; marks = marks; certificates = certificates }

pub no_report : (g : Group) (me : ℕ) (kept : ViewState) (known : List (Signed Body)) (said : List Body) (base : ℕ)
    (marks : List (Signed Mark)) (certificates : List Certificate) → is_report_owed kept ≡ false →
    AreViewsOf g me kept known said
    → [] ≡ report_due g known said base marks certificates
no_report g me kept known said base marks certificates e is = none_due (report_is_due g known said (view g known))
    (report_with (view g known) base marks certificates) (sym (report_owed-is g me kept known said is) ∙ e)

pub one_report : (g : Group) (me : ℕ) (kept : ViewState) (known : List (Signed Body)) (said : List Body) (v base : ℕ)
    (marks ms : List (Signed Mark)) (certificates cs : List Certificate) → is_report_owed kept ≡ true →
    v ≡ kept.view → ms ≡ marks → cs ≡ certificates → AreViewsOf g me kept known said
    → report_with v base ms cs ∷ [] ≡ report_due g known said base marks certificates
one_report g me kept known said v base marks ms certificates cs e same m c is =
    ap (λ u. report_with u base ms cs ∷ []) (same ∙ is.view) ∙ ap (λ xs. report_with (view g known) base xs cs ∷ []) m
    ∙ ap (λ xs. report_with (view g known) base marks xs ∷ []) c
    ∙ one_due (report_is_due g known said (view g known)) (report_with (view g known) base marks certificates)
    (sym (report_owed-is g me kept known said is) ∙ e)

-- a new view is due where one is owed by what is kept
abbrev pub new_view_is_due : Group → ℕ → List (Signed Body) → List Body → ℕ → Bool
new_view_is_due g me known said v = nat_le 1 v && nat_eq me (leader_of g v)
    && nat_le g.q (length (first_reports g known v)) && not (list_any (new_views_said v) said)

filter_map_same : {X : Type 0} (f h : ℕ → Option X) (n : ℕ) → ((j : ℕ) → f j ≡ h j) →
    filter_map f (numbers_below n) ≡ filter_map h (numbers_below n)
filter_map_same f h n same = λ i. filter_map (λ j. same j i) (numbers_below n)

first_report-is : (known : List (Signed Body)) (v j : ℕ) →
    first_report known v j ≡ first_of_list (filter_map (report_by v j) known)
unfolding first_report
first_report-is known v j = refl

pub present_reports-are : (g : Group) (me : ℕ) (kept : ViewState) (known : List (Signed Body)) (said : List Body) →
    AreViewsOf g me kept known said → present_reports kept ≡ first_reports g known (view g known)
present_reports-are g me kept known said is =
    ap (λ n. filter_map (at_place kept.reports kept.view) (numbers_below n)) is.masters
    ∙ filter_map_same (at_place kept.reports kept.view)
    (λ j. first_of_list (filter_map (report_by kept.view j) known)) g.n
    (λ j. is.reports kept.view j ∙ first_report-is known kept.view j)
    ∙ ap (first_reports g known) is.view

pub new_view_owed-is : (g : Group) (me : ℕ) (kept : ViewState) (known : List (Signed Body)) (said : List Body) →
    AreViewsOf g me kept known said → is_new_view_owed kept ≡ new_view_is_due g me known said (view g known)
new_view_owed-is g me kept known said is =
    ap (λ (rs : List (Signed Report)). nat_le 1 kept.view && nat_eq kept.me (kept.view % kept.group.n)
    && nat_le kept.group.q (length rs) && not (slice_index_or kept.opened kept.view false))
    (present_reports-are g me kept known said is)
    ∙ ap (λ n. nat_le 1 kept.view && nat_eq kept.me (kept.view % n)
    && nat_le kept.group.q (length (first_reports g known (view g known)))
    && not (slice_index_or kept.opened kept.view false)) is.masters
    ∙ ap (λ q. nat_le 1 kept.view && nat_eq kept.me (kept.view % g.n)
    && nat_le q (length (first_reports g known (view g known)))
    && not (slice_index_or kept.opened kept.view false)) is.quorum
    ∙ ap (λ m. nat_le 1 kept.view && nat_eq m (kept.view % g.n)
    && nat_le g.q (length (first_reports g known (view g known)))
    && not (slice_index_or kept.opened kept.view false)) is.own
    ∙ ap (λ b. nat_le 1 kept.view && nat_eq me (kept.view % g.n)
    && nat_le g.q (length (first_reports g known (view g known))) && not b) (is.opened kept.view low)
    ∙ ap (λ v. nat_le 1 v && nat_eq me (v % g.n) && nat_le g.q (length (first_reports g known (view g known)))
    && not (list_any (new_views_said v) said)) is.view
  where
    low : kept.view ≤ most_view
    low = is.limit

abbrev pub new_view_with : ℕ → List (Signed Report) → Body
new_view_with v reports = body.NewView record { v = v; reports = reports }

pub no_new_view : (g : Group) (me : ℕ) (kept : ViewState) (known : List (Signed Body)) (said : List Body) →
    is_new_view_owed kept ≡ false → AreViewsOf g me kept known said → [] ≡ new_view_due g me known said
no_new_view g me kept known said e is = none_due (new_view_is_due g me known said (view g known))
    (new_view_with (view g known) (take g.q (first_reports g known (view g known))))
    (sym (new_view_owed-is g me kept known said is) ∙ e)

pub one_new_view : (g : Group) (me : ℕ) (kept : ViewState) (known : List (Signed Body)) (said : List Body) (v : ℕ)
    (reports : List (Signed Report)) → is_new_view_owed kept ≡ true → v ≡ kept.view →
    reports ≡ take kept.group.q (present_reports kept) → AreViewsOf g me kept known said
    → new_view_with v reports ∷ [] ≡ new_view_due g me known said
one_new_view g me kept known said v reports e same rs is =
    ap (λ u. new_view_with u reports ∷ []) (same ∙ is.view)
    ∙ ap (λ xs. new_view_with (view g known) xs ∷ [])
    (rs ∙ ap (take kept.group.q) (present_reports-are g me kept known said is)
    ∙ ap (λ q. take q (first_reports g known (view g known))) is.quorum)
    ∙ one_due (new_view_is_due g me known said (view g known))
    (new_view_with (view g known) (take g.q (first_reports g known (view g known))))
    (sym (new_view_owed-is g me kept known said is) ∙ e)

-- one master more
pub reports-start : {X : Type 0} (f : ℕ → Option X) → [] ≡ filter_map f (numbers_below 0)
reports-start f = ap (filter_map f) (sym below_none_at)

pub reports-more : {X : Type 0} (f : ℕ → Option X) (n : ℕ) → filter_map f (numbers_below n)
    ++ option_to_list (f n) ≡ filter_map f (numbers_below (n + 1))
reports-more {X = X} f n =
    ap (λ xs. filter_map f (numbers_below n) ++ xs) (sym (last (f n) refl))
    ∙ sym (filter_map-append f (numbers_below n) (n ∷ []))
    ∙ ap (filter_map f) (sym (numbers_below-suc n) ∙ ap numbers_below (sym (add-one n)))
  where
    last : (o : Option X) → f n ≡ o → filter_map f (n ∷ []) ≡ option_to_list o
    last None e = rw e refl
    last (Some x) e = rw e refl

bit_is : {X : Type 0} (o : Option X) (b : Bool) → b ≡ is_some o → bool_byte b ≡ length (option_to_list o)
bit_is None true e = absurd (cc)
bit_is None false e = refl
bit_is (Some x) true e = refl
bit_is (Some x) false e = absurd (cc)

pub count-more : {X : Type 0} (f : ℕ → Option X) (n count bit : ℕ) (b : Bool) →
    count ≡ length (filter_map f (numbers_below n)) → b ≡ is_some (f n) → bit ≡ bool_byte b →
    count + bit ≡ length (filter_map f (numbers_below (n + 1)))
count-more f n count bit b so_far there one =
    let more : length (filter_map f (numbers_below (n + 1))) ≡ length (filter_map f (numbers_below n)) + length
    (option_to_list (f n)) = ap length (sym (reports-more f n)) ∙ length-append (filter_map f (numbers_below n))
    (option_to_list (f n)) in
    let last : bit ≡ length (option_to_list (f n)) = one ∙ bit_is (f n) b there in
    omega arith

pub taken-start : {X : Type 0} (f : ℕ → Option X) (q : ℕ) → [] ≡ take q (filter_map f (numbers_below 0))
taken-start {X = X} f q = sym (none q) ∙ ap (take q) (reports-start f)
  where
    no_more : List X
    no_more = []

    none : (q : ℕ) → take q no_more ≡ []
    none zero = refl
    none (suc q) = refl

-- whether a report is owed, by the masters that suspect the leader before
pub owed_by : (kept : ViewState) (masters : List ℕ) (r : Bool) → (kept.view ≡ 0 → ⊥) →
    slice_index_or kept.reported kept.view false ≡ false → suspects_of kept (kept.view - 1) ≡ masters
    → r ≡ has_quorum kept.group.n kept.group.q (has_master masters) → r ≡ is_report_owed kept
owed_by kept masters r later fresh are enough =
    enough ∙ ap (λ ms. has_quorum kept.group.n kept.group.q (has_master ms)) (sym are)
    ∙ sym (ap (λ b. b && has_quorum kept.group.n kept.group.q (has_master (suspects_of kept (kept.view - 1)))
    && not (slice_index_or kept.reported kept.view false)) (le-leb 1 kept.view (some kept.view later))
    ∙ ap (λ b. has_quorum kept.group.n kept.group.q (has_master (suspects_of kept (kept.view - 1))) && not b) fresh
    ∙ and-true (has_quorum kept.group.n kept.group.q (has_master (suspects_of kept (kept.view - 1)))))
  where
    some : (v : ℕ) → (v ≡ 0 → ⊥) → 1 ≤ v
    some zero ne = absurd (ne refl)
    some (suc v) ne = omega arith

pub owed_by_none : (kept : ViewState) → (kept.view ≡ 0 → ⊥) → slice_index_or kept.reported kept.view false ≡ false →
    suspects_of kept (kept.view - 1) ≡ [] → 1 ≤ kept.group.q → false ≡ is_report_owed kept
owed_by_none kept later fresh none least =
    owed_by kept [] false later fresh none (sym (quorum-none kept.group.n kept.group.q least))
