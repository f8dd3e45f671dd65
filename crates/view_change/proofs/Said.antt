-- What the bodies said change, and the views where nothing is known or said.
use Rattle.std.proofs.Common.{◌≡◌, ℕ, ◌<◌, ◌≤◌, Bool, true, false, ◌||◌, ◌&&◌, List, [], ◌∷◌, ◌++◌, Option, Some}
use Rattle.std.proofs.Common.{None, length, take, get_or, set, nat_eq, refl, sym, ◌∙◌, ap, inl, inr, ◌⊎◌}
use Rattle.std.proofs.Common.{if◌then◌else◌, unwrap_or, slice_index_or, get_or-set_same, get_or-set_other, arith}
use Rattle.std.specs.Prelude.{replicate}
use Rattle.std.specs.List.{list_any}
use Rattle.std.specs.Option.{is_some, option_to_list}
use Rattle.std.proofs.lemmas.Bool.{cases_eq, eq-eqb, ne_eqb}
use Rattle.std.proofs.lemmas.List.Folds.{list_any-append}
use Rattle.message_types.specs.declared.signed.Signed.{Signed}
use Rattle.message_types.specs.declared.ordering.Mark.{Mark}
use Rattle.message_types.specs.declared.ordering.Certificate.{Certificate}
use Rattle.message_types.specs.declared.body.Body.{Body}
use Rattle.quorum_sets.specs.Masters.{has_master}
use Rattle.protocol_rules.specs.Group.{Group, most_view}
use Rattle.protocol_rules.specs.Views.{view, first_reports, reports_said, new_views_said, report_due, new_view_due}
use Rattle.view_change.specs.ViewState.{ViewState, AreViewsOf, at_view, at_place, first_report, first_new_view}
use Rattle.view_change.proofs.Answering.{report_with, new_view_with, report_is_due, new_view_is_due}
use Rattle.plain_lists.proofs.Lists.{no_mark}

is_there : {X : Type 0} (o : Option X) (x : X) → option_to_list o ≡ x ∷ [] → is_some o ≡ true
is_there None x e = absurd (cc)
is_there (Some y) x e = refl

is_none : {X : Type 0} (o : Option X) → option_to_list o ≡ [] → is_some o ≡ false
is_none None e = refl
is_none (Some y) e = absurd (cc)

-- a test that the one body due passes where its view is v
one_said : (p : Body → Bool) (o : Option Body) (b here : Bool) (x : Body) →
    option_to_list o ≡ (if b then x ∷ [] else []) → p x ≡ here → list_any p (option_to_list o) ≡ (is_some o && here)
one_said p o true here x e passes = ap (list_any p) e ∙ ap (λ c. c || false) passes ∙ or_false here
    ∙ ap (λ c. c && here) (sym (is_there o x e))
  where
    or_false : (c : Bool) → (c || false) ≡ c
    or_false true = refl
    or_false false = refl
one_said p o false here x e passes = ap (list_any p) e ∙ ap (λ c. c && here) (sym (is_none o e))

-- a test that it doesn't pass
none_said : (p : Body → Bool) (o : Option Body) (b : Bool) (x : Body) →
    option_to_list o ≡ (if b then x ∷ [] else []) → p x ≡ false → list_any p (option_to_list o) ≡ false
none_said p o true x e fails = ap (list_any p) e ∙ ap (λ c. c || false) fails
none_said p o false x e fails = ap (list_any p) e

said_with : (p : Body → Bool) (said bodies : List Body) (first second : Option Body) →
    bodies ≡ option_to_list first ++ option_to_list second
    → list_any p (said ++ bodies) ≡ (list_any p said
    || (list_any p (option_to_list first) || list_any p (option_to_list second)))
said_with p said bodies first second e =
    list_any-append p said bodies ∙ ap (λ c. list_any p said || c)
    (ap (list_any p) e ∙ list_any-append p (option_to_list first) (option_to_list second))

-- the mark at a view, put where the one present view is
marked : (marks : List Bool) (place v : ℕ) (there added was : Bool) → place < length marks →
    get_or marks v false ≡ was → (place ≡ v → there ≡ (was || added)) →
    get_or (set marks place there) v false ≡ (was || (added && nat_eq place v))
marked marks place v there added was within before now = at (cases_eq place v)
  where
    and_true : (c : Bool) → (c && true) ≡ c
    and_true true = refl
    and_true false = refl

    or_none : (c d : Bool) → (c || (d && false)) ≡ c
    or_none true d = refl
    or_none false true = refl
    or_none false false = refl

    at : (place ≡ v) ⊎ (place ≡ v → ⊥) → get_or (set marks place there) v false ≡ (was || (added && nat_eq place v))
    at (inl e) =
        ap (λ w. get_or (set marks place there) w false) (sym e)
        ∙ get_or-set_same marks place there false within ∙ now e
        ∙ ap (λ c. was || c) (sym (ap (λ c. added && c) (eq-eqb place v e) ∙ and_true added))
    at (inr ne) =
        get_or-set_other marks place v there false (λ (e : v ≡ place). ne (sym e)) ∙ before
        ∙ sym (ap (λ c. was || (added && c)) (ne_eqb place v ne) ∙ or_none was added)

pub counted : (g : Group) (me : ℕ) (kept new : ViewState) (known : List (Signed Body)) (said bodies : List Body)
    (base : ℕ) (marks : List (Signed Mark)) (certificates : List Certificate) (report opening : Option Body)
    (reports opens : Bool)
    → option_to_list report ≡ report_due g known said base marks certificates →
    option_to_list opening ≡ new_view_due g me known said → bodies ≡ option_to_list report ++ option_to_list opening
    → reports ≡ (slice_index_or kept.reported kept.view false || is_some report) →
    opens ≡ (slice_index_or kept.opened kept.view false || is_some opening)
    → kept.view < length kept.reported → kept.view < length kept.opened
    → new.group ≡ kept.group → new.me ≡ kept.me → new.view ≡ kept.view → new.suspects ≡ kept.suspects →
    new.reports ≡ kept.reports → new.plans ≡ kept.plans
    → new.reported ≡ set kept.reported kept.view reports → new.opened ≡ set kept.opened kept.view opens
    → AreViewsOf g me kept known said → AreViewsOf g me new known (said ++ bodies)
counted g me kept new known said bodies base marks certificates report opening reports opens due_report due_opening
    both now_reports now_opens within_reports within_opens group own same suspects kept_reports plans
    reported opened is = record {
      masters = ap (λ (h : Group). h.n) group ∙ is.masters;
      quorum = ap (λ (h : Group). h.q) group ∙ is.quorum;
      own = own ∙ is.own;
      view = same ∙ is.view;
      limit = (let low : kept.view ≤ most_view = is.limit in omega arith);
      suspects = λ v j low few. ap (λ es. has_master (unwrap_or (at_view es v) []) j) suspects
          ∙ is.suspects v j low few;
      reports = λ v j. ap (λ es. at_place es v j) kept_reports ∙ is.reports v j;
      plans = λ v. ap (λ es. at_view es v) plans ∙ is.plans v;
      reported = λ v most.
          ap (λ bs. slice_index_or bs v false) reported
          ∙ marked kept.reported kept.view v reports (is_some report) (list_any (reports_said v) said)
          within_reports (is.reported v most)
          (λ e. now_reports ∙ ap (λ w. slice_index_or kept.reported w false || is_some report) e
          ∙ ap (λ c. c || is_some report) (is.reported v most))
          ∙ ap (λ w. list_any (reports_said v) said || (is_some report && nat_eq w v)) is.view
          ∙ ap (λ c. list_any (reports_said v) said || c)
          (sym (report_told v) ∙ or_false (list_any (reports_said v) (option_to_list report)))
          ∙ ap (λ c. list_any (reports_said v) said || (list_any (reports_said v) (option_to_list report) || c))
          (sym (no_report_told v))
          ∙ sym (said_with (reports_said v) said bodies report opening both);
      opened = λ v most.
          ap (λ bs. slice_index_or bs v false) opened
          ∙ marked kept.opened kept.view v opens (is_some opening) (list_any (new_views_said v) said)
          within_opens (is.opened v most)
          (λ e. now_opens ∙ ap (λ w. slice_index_or kept.opened w false || is_some opening) e
          ∙ ap (λ c. c || is_some opening) (is.opened v most))
          ∙ ap (λ w. list_any (new_views_said v) said || (is_some opening && nat_eq w v)) is.view
          ∙ ap (λ c. list_any (new_views_said v) said || c) (sym (opening_told v))
          ∙ ap (λ c. list_any (new_views_said v) said || (c || list_any (new_views_said v) (option_to_list opening)))
          (sym (no_opening_told v))
          ∙ sym (said_with (new_views_said v) said bodies report opening both);
    }
  where
    or_false : (c : Bool) → c ≡ (c || false)
    or_false true = refl
    or_false false = refl

    report_told : (v : ℕ) → list_any (reports_said v) (option_to_list report) ≡
        (is_some report && nat_eq (view g known) v)
    report_told v = one_said (reports_said v) report (report_is_due g known said (view g known))
        (nat_eq (view g known) v) (report_with (view g known) base marks certificates) due_report refl

    no_report_told : (v : ℕ) → list_any (reports_said v) (option_to_list opening) ≡ false
    no_report_told v = none_said (reports_said v) opening (new_view_is_due g me known said (view g known))
        (new_view_with (view g known) (take g.q (first_reports g known (view g known)))) due_opening refl

    opening_told : (v : ℕ) → list_any (new_views_said v) (option_to_list opening) ≡
        (is_some opening && nat_eq (view g known) v)
    opening_told v = one_said (new_views_said v) opening (new_view_is_due g me known said (view g known))
        (nat_eq (view g known) v) (new_view_with (view g known) (take g.q (first_reports g known (view g known))))
        due_opening refl

    no_opening_told : (v : ℕ) → list_any (new_views_said v) (option_to_list report) ≡ false
    no_opening_told v = none_said (new_views_said v) report (report_is_due g known said (view g known))
        (report_with (view g known) base marks certificates) due_report refl

pub both_pushed : (first second : Option Body) (start middle bodies : List Body) → start ≡ [] →
    middle ≡ start ++ option_to_list first → bodies ≡ middle ++ option_to_list second →
    bodies ≡ option_to_list first ++ option_to_list second
both_pushed first second start middle bodies none one two =
    two ∙ ap (λ xs. xs ++ option_to_list second) (one ∙ ap (λ xs. xs ++ option_to_list first) none)

-- nothing known and nothing said
view-none : (g : Group) → 0 ≡ view g []
unfolding view
view-none g = refl

pub views-none : (g : Group) (me : ℕ) (kept : ViewState) → kept.group.n ≡ g.n → kept.group.q ≡ g.q → kept.me ≡ me →
    kept.view ≡ 0 → kept.suspects ≡ [] → kept.reports ≡ [] → kept.plans ≡ []
    → kept.reported ≡ replicate 256 false → kept.opened ≡ replicate 256 false → AreViewsOf g me kept [] []
unfolding first_report first_new_view
views-none g me kept n q own view suspects reports plans reported opened = record {
  masters = n;
  quorum = q;
  own = own;
  view = view ∙ view-none g;
  limit = (let e : kept.view ≡ 0 = view in omega arith);
  suspects = λ v j low few. ap (λ es. has_master (unwrap_or (at_view es v) []) j) suspects;
  reports = λ v j. ap (λ es. at_place es v j) reports;
  plans = λ v. ap (λ es. at_view es v) plans;
  reported = λ v most. ap (λ bs. slice_index_or bs v false) reported ∙ no_mark 256 v;
  opened = λ v most. ap (λ bs. slice_index_or bs v false) opened ∙ no_mark 256 v;
}
