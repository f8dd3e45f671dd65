-- Which words and which bodies count.
use Rattle.std.proofs.Common.{◌≡◌, ℕ, Bool, true, false, cond, ◌||◌, List, [], ◌∷◌, Option, Some, None, filter, refl}
use Rattle.std.proofs.Common.{sym, ◌∙◌, ap, arith}
use Rattle.std.specs.List.{list_any, filter_map}
use Rattle.std.specs.Option.{option_map}
use Rattle.message_types.specs.declared.signed.Signed.{Signed}
use Rattle.message_types.specs.declared.body.Body.{Body}
use Rattle.message_types.specs.declared.body.Body.TheVariants as body
use Rattle.protocol_rules.specs.Words.{first_of_list, greatest_of, or_else}
use Rattle.protocol_rules.specs.Group.{Group}
use Rattle.protocol_rules.specs.Views.{view, view_shown, is_suspect, report_by, new_view_in, reports_said}
use Rattle.protocol_rules.specs.Views.{new_views_said}
use Rattle.view_change.specs.ViewState.{ViewState, AreViewsOf, Learns, first_report, first_new_view, plan_in_new_view}
use Rattle.view_change.specs.ViewState.{is_view_word}
use Rattle.protocol_rules.proofs.Greatest.{or_zero}
use Rattle.view_change.proofs.Reached.{quorum-same}
use Rattle.view_change.proofs.Known.{passed, view-is, view-same}
use Rattle.protocol_rules.proofs.FirstMet.{or_else-none}

not_suspect : (v j : ℕ) (f : Signed Body) → is_view_word f ≡ false → is_suspect v j f ≡ false
not_suspect v j f none = at f.body refl
  where
    at : (b : Body) → f.body ≡ b → is_suspect v j f ≡ false
    at (body.Suspect b) e = absurd (let h : true ≡ false =
        ap (λ w. is_view_word record f { body = w }) (sym e) ∙ none in cc)
    at _ e = rw e refl

not_report : (v j : ℕ) (f : Signed Body) → is_view_word f ≡ false → report_by v j f ≡ None
not_report v j f none = at f.body refl
  where
    at : (b : Body) → f.body ≡ b → report_by v j f ≡ None
    at (body.Report b) e = absurd (let h : true ≡ false =
        ap (λ w. is_view_word record f { body = w }) (sym e) ∙ none in cc)
    at _ e = rw e refl

not_new_view : (v : ℕ) (f : Signed Body) → is_view_word f ≡ false → new_view_in v f ≡ None
not_new_view v f none = at f.body refl
  where
    at : (b : Body) → f.body ≡ b → new_view_in v f ≡ None
    at (body.NewView b) e = absurd (let h : true ≡ false =
        ap (λ w. is_view_word record f { body = w }) (sym e) ∙ none in cc)
    at _ e = rw e refl

shows_nothing : (g : Group) (known : List (Signed Body)) (f : Signed Body) → is_view_word f ≡ false →
    view_shown g known f ≡ None
shows_nothing g known f none = at f.body refl
  where
    at : (b : Body) → f.body ≡ b → view_shown g known f ≡ None
    at (body.Suspect b) e = absurd (let h : true ≡ false =
        ap (λ w. is_view_word record f { body = w }) (sym e) ∙ none in cc)
    at (body.NewView b) e = absurd (let h : true ≡ false =
        ap (λ w. is_view_word record f { body = w }) (sym e) ∙ none in cc)
    at _ e = rw e refl

-- a word of another kind
pub other_passed : (kept : ViewState) (f : Signed Body) → is_view_word f ≡ false → Learns kept kept f
other_passed kept f none g me known said is =
    passed g me kept known said f (λ v j few. not_suspect v j f none) (let zero : or_zero (view_shown g known f) ≡ 0 =
    ap or_zero (shows_nothing g known f none) in omega arith)
    (λ v j. ap (λ o. or_else (first_report known v j) o) (not_report v j f none)
    ∙ or_else-none (first_report known v j))
    (λ v. ap (λ o. or_else (first_new_view known v) o) (not_new_view v f none)
    ∙ or_else-none (first_new_view known v)) is

-- a function of the words that gives nothing of other kinds
gives_alone : {X : Type 0} (h : Signed Body → Option X) → ((f : Signed Body) → is_view_word f ≡ false → h f ≡ None) →
    (known : List (Signed Body)) → filter_map h (filter is_view_word known) ≡ filter_map h known
gives_alone h others [] = refl
gives_alone h others (f ∷ rest) = at (is_view_word f) refl (gives_alone h others rest)
  where
    at : (b : Bool) → is_view_word f ≡ b → filter_map h (filter is_view_word rest) ≡ filter_map h rest →
        filter_map h (filter is_view_word (f ∷ rest)) ≡ filter_map h (f ∷ rest)
    at true e less = ap (λ t. filter_map h (cond t (f ∷ filter is_view_word rest) (filter is_view_word rest))) e
        ∙ by (h f) refl less
      where
        by : (o : Option _) → h f ≡ o → filter_map h (filter is_view_word rest) ≡ filter_map h rest →
            filter_map h (f ∷ filter is_view_word rest) ≡ filter_map h (f ∷ rest)
        by None o less = rw o less
        by (Some x) o less = rw o (ap (λ xs. x ∷ xs) less)
    at false e less =
        ap (λ t. filter_map h (cond t (f ∷ filter is_view_word rest) (filter is_view_word rest))) e ∙ less
        ∙ (let none : h f ≡ None = others f e in rw none refl)

votes_alone : (v j : ℕ) (known : List (Signed Body)) →
    list_any (is_suspect v j) (filter is_view_word known) ≡ list_any (is_suspect v j) known
votes_alone v j [] = refl
votes_alone v j (f ∷ rest) = at (is_view_word f) refl (votes_alone v j rest)
  where
    at : (b : Bool) → is_view_word f ≡ b → list_any (is_suspect v j) (filter is_view_word rest) ≡ list_any
        (is_suspect v j) rest → list_any (is_suspect v j) (filter is_view_word (f ∷ rest)) ≡ list_any
        (is_suspect v j) (f ∷ rest)
    at true e less = ap (λ t. list_any (is_suspect v j)
        (cond t (f ∷ filter is_view_word rest) (filter is_view_word rest))) e ∙ ap (λ t. is_suspect v j f || t) less
    at false e less = ap (λ t. list_any (is_suspect v j)
        (cond t (f ∷ filter is_view_word rest) (filter is_view_word rest))) e ∙ less
        ∙ ap (λ t. t || list_any (is_suspect v j) rest) (sym (not_suspect v j f e))

first_report_alone : (known : List (Signed Body)) (v j : ℕ) →
    first_report (filter is_view_word known) v j ≡ first_report known v j
unfolding first_report
first_report_alone known v j = ap first_of_list (gives_alone (report_by v j) (λ f e. not_report v j f e) known)

first_new_view_alone : (known : List (Signed Body)) (v : ℕ) →
    first_new_view (filter is_view_word known) v ≡ first_new_view known v
unfolding first_new_view
first_new_view_alone known v = ap first_of_list (gives_alone (new_view_in v) (λ f e. not_new_view v f e) known)

view_alone : (g : Group) (known : List (Signed Body)) → view g (filter is_view_word known) ≡ view g known
view_alone g known =
    view-is g (filter is_view_word known)
    ∙ view-same g known (filter is_view_word known) (filter is_view_word known)
    (λ v. quorum-same g.n g.q (λ j. list_any (is_suspect v j) known)
    (λ j. list_any (is_suspect v j) (filter is_view_word known)) (λ j few. sym (votes_alone v j known)))
    ∙ ap greatest_of (gives_alone (view_shown g known) (shows_nothing g known) known) ∙ sym (view-is g known)

-- only suspicions, reports and new views count
pub view_words_alone : (g : Group) (me : ℕ) (kept : ViewState) (known : List (Signed Body)) (said : List Body) →
    AreViewsOf g me kept (filter is_view_word known) said → AreViewsOf g me kept known said
view_words_alone g me kept known said is = record {
  masters = is.masters;
  quorum = is.quorum;
  own = is.own;
  view = is.view ∙ view_alone g known;
  limit = is.limit;
  suspects = λ v j low few. is.suspects v j low few ∙ votes_alone v j known;
  reports = λ v j. is.reports v j ∙ first_report_alone known v j;
  plans = λ v. is.plans v ∙ ap (option_map (plan_in_new_view g)) (first_new_view_alone known v);
  reported = is.reported;
  opened = is.opened;
}

-- only the reports and new views of what was said count
pub said_alone : (g : Group) (me : ℕ) (kept : ViewState) (known : List (Signed Body)) (said other : List Body) →
    ((v : ℕ) → list_any (reports_said v) other ≡ list_any (reports_said v) said) →
    ((v : ℕ) → list_any (new_views_said v) other ≡ list_any (new_views_said v) said)
    → AreViewsOf g me kept known said → AreViewsOf g me kept known other
said_alone g me kept known said other reports opens is = record {
  masters = is.masters;
  quorum = is.quorum;
  own = is.own;
  view = is.view;
  limit = is.limit;
  suspects = is.suspects;
  reports = is.reports;
  plans = is.plans;
  reported = λ v most. is.reported v most ∙ sym (reports v);
  opened = λ v most. is.opened v most ∙ sym (opens v);
}
