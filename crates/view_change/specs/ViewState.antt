-- What a master keeps of suspicions, reports and new views, and when it is what these words and bodies make of it, by
-- the rules of Prime and PBFT in protocol_rules. (How it is kept is this project's own.)
use Rattle.std.specs.Prelude.{◌≡◌, ℕ, ◌≤◌, ◌<◌, ◌-◌, ◌%◌, Bool, true, false, ◌&&◌, not, List, [], ◌∷◌, Option, length}
use Rattle.std.specs.Prelude.{nat_eq, nat_le, slice_index_or, map}
use Rattle.std.specs.List.{list_any, filter_map}
use Rattle.std.specs.Option.{option_map, unwrap_or}
use Rattle.std.specs.Map.{lookup}
use Rattle.message_types.specs.declared.signed.Signed.{Signed}
use Rattle.message_types.specs.declared.views.Report.{Report}
use Rattle.message_types.specs.declared.views.NewView.{NewView}
use Rattle.message_types.specs.declared.views.Plan.{Plan}
use Rattle.message_types.specs.declared.body.Body.{Body}
use Rattle.message_types.specs.declared.body.Body.TheVariants as body
use Rattle.quorum_sets.specs.Masters.{has_master, numbers_below}
use Rattle.quorum_sets.specs.Quorum.{has_quorum}
use Rattle.protocol_rules.specs.Words.{first_of_list}
use Rattle.protocol_rules.specs.Parts as part
use Rattle.protocol_rules.specs.Group.{Group, most_view}
use Rattle.protocol_rules.specs.Plans.{plan_of}
use Rattle.protocol_rules.specs.Views.{view, is_suspect, is_suspected, report_by, new_view_in, reports_said}
use Rattle.protocol_rules.specs.Views.{new_views_said}

-- the group (whose clients don't matter here) and the master, the present view, by view the masters that suspect its
-- leader, the first reports by view and master, the first plan by view, and of which views it said a report and a new
-- view
pub record ViewState : Type 0 where
  pub group : Group
  pub me : ℕ
  pub view : ℕ
  pub suspects : List (ℕ × List ℕ)
  pub reports : List ((ℕ × ℕ) × Signed Report)
  pub plans : List (ℕ × Plan)
  pub reported : List Bool
  pub opened : List Bool

-- what a list of entries has at a view, and at a view and master
abbrev pub at_view : {X : Type 0} → List (ℕ × X) → ℕ → Option X
at_view entries v = lookup (λ w. nat_eq v w) entries

abbrev pub at_place : {X : Type 0} → List ((ℕ × ℕ) × X) → ℕ → ℕ → Option X
at_place entries v master = lookup (λ place. nat_eq v place.0 && nat_eq master place.1) entries

-- the masters that suspect the leader of view v
abbrev pub suspects_of : ViewState → ℕ → List ℕ
suspects_of kept v = unwrap_or (at_view kept.suspects v) []

-- the reports of the present view, by rising master
abbrev pub present_reports : ViewState → List (Signed Report)
present_reports kept = filter_map (at_place kept.reports kept.view) (numbers_below kept.group.n)

-- a quorum suspects the leader before the present view, and no report of it was said
abbrev pub is_report_owed : ViewState → Bool
is_report_owed kept =
    nat_le 1 kept.view && has_quorum kept.group.n kept.group.q (has_master (suspects_of kept (kept.view - 1)))
    && not (slice_index_or kept.reported kept.view false)

-- a report of the present view is due, by what is known and said
abbrev pub is_report_due : Group → List (Signed Body) → List Body → Bool
is_report_due g known said =
    nat_le 1 (view g known) && is_suspected g known (view g known - 1)
    && not (list_any (reports_said (view g known)) said)

-- the master leads the present view, has reports of a quorum for it, and didn't open it
abbrev pub is_new_view_owed : ViewState → Bool
is_new_view_owed kept =
    nat_le 1 kept.view && nat_eq kept.me (kept.view % kept.group.n)
    && nat_le kept.group.q (length (present_reports kept))
    && not (slice_index_or kept.opened kept.view false)

-- the first known report of view v of a master, and the first known new view
unfoldable pub first_report : List (Signed Body) → ℕ → ℕ → Option (Signed Report)
first_report known v master = first_of_list (filter_map (report_by v master) known)

unfoldable pub first_new_view : List (Signed Body) → ℕ → Option (Signed NewView)
first_new_view known v = first_of_list (filter_map (new_view_in v) known)

-- the plan of a new view's reports
abbrev pub plan_in_new_view : Group → Signed NewView → Plan
plan_in_new_view g f = plan_of g (map (λ r. r.body) f.body.reports)

-- The views of master `me` where these words are known and these bodies were said.
pub record AreViewsOf (g : Group) (me : ℕ) (kept : ViewState) (known : List (Signed Body))
    (said : List Body) : Type 0 where
  pub masters : kept.group.n ≡ g.n
  pub quorum : kept.group.q ≡ g.q
  pub own : kept.me ≡ me
  pub view : kept.view ≡ view g known
  pub limit : kept.view ≤ most_view
  pub suspects : (v master : ℕ) → v < most_view → master < g.n →
      has_master (suspects_of kept v) master ≡ list_any (is_suspect v master) known
  pub reports : (v master : ℕ) → at_place kept.reports v master ≡ first_report known v master
  pub plans : (v : ℕ) → at_view kept.plans v ≡ option_map (plan_in_new_view g) (first_new_view known v)
  pub reported : (v : ℕ) → v ≤ most_view → slice_index_or kept.reported v false ≡ list_any (reports_said v) said
  pub opened : (v : ℕ) → v ≤ most_view → slice_index_or kept.opened v false ≡ list_any (new_views_said v) said

-- The views learn a word: whatever was known and said, they are the views where this is known too.
abbrev pub Learns : ViewState → ViewState → Signed Body → Type 0
Learns old new f = (g : Group) (me : ℕ) → part.Learns (AreViewsOf g me old) (AreViewsOf g me new) (f ∷ [])

-- They say bodies.
abbrev pub Says : ViewState → ViewState → List Body → Type 0
Says old new bodies = (g : Group) (me : ℕ) → part.Says (AreViewsOf g me old) (AreViewsOf g me new) bodies

-- what holds of all that may be known and said where these are the views
abbrev pub Where : ViewState → (Group → ℕ → List (Signed Body) → List Body → Type 0) → Type 0
Where kept Holds = (g : Group) (me : ℕ) (known : List (Signed Body)) (said : List Body) →
    AreViewsOf g me kept known said → Holds g me known said

-- the word is a suspicion, a report or a new view
abbrev pub is_view_word : Signed Body → Bool
is_view_word f = elim f.body [ body.Suspect b ↦ true | body.Report b ↦ true | body.NewView b ↦ true | _ ↦ false ]
