-- Views, after Prime's suspicion votes and PBFT's view change, over the words known in their order.
use Rattle.std.specs.Prelude.{ℕ, ◌+◌, ◌-◌, Bool, false, ◌&&◌, ◌||◌, not, List, [], ◌∷◌, Option, Some, None, length}
use Rattle.std.specs.Prelude.{take, nat_eq, nat_le, if◌then◌else◌}
use Rattle.std.specs.List.{list_any, filter_map}
use Rattle.std.specs.Option.{is_some}
use Rattle.message_types.specs.declared.signed.Signed.{Signed}
use Rattle.message_types.specs.declared.ordering.Mark.{Mark}
use Rattle.message_types.specs.declared.ordering.Certificate.{Certificate}
use Rattle.message_types.specs.declared.views.Report.{Report}
use Rattle.message_types.specs.declared.views.NewView.{NewView}
use Rattle.message_types.specs.declared.body.Body.{Body}
use Rattle.message_types.specs.declared.body.Body.TheVariants as body
use Rattle.quorum_sets.specs.Masters.{numbers_below}
use Rattle.quorum_sets.specs.Quorum.{has_quorum}
use Rattle.protocol_rules.specs.Words.{greatest_of, first_of_list}
use Rattle.protocol_rules.specs.Group.{Group, leader_of}

-- the frame is the master's vote against the leader of view v
abbrev pub is_suspect : ℕ → ℕ → Signed Body → Bool
is_suspect v master f = elim f.body [ body.Suspect b ↦ nat_eq f.signer master && nat_eq b.v v | _ ↦ false ]

abbrev pub is_suspected : Group → List (Signed Body) → ℕ → Bool
is_suspected g known v = has_quorum g.n g.q (λ master. list_any (is_suspect v master) known)

-- the frame opens view v
abbrev pub new_view_in : ℕ → Signed Body → Option (Signed NewView)
new_view_in v f = elim f.body [
  | body.NewView b ↦ if nat_eq b.v v then Some record { signer = f.signer; body = b; sig = f.sig } else None
  | _ ↦ None
]

abbrev pub is_opened : List (Signed Body) → ℕ → Bool
is_opened known v = list_any (λ f. is_some (new_view_in v f)) known

-- the view that a known frame shows: a suspect of v shows v + 1 where a quorum suspects v, a new view its own
abbrev pub view_shown : Group → List (Signed Body) → Signed Body → Option ℕ
view_shown g known f = elim f.body [
  | body.Suspect b ↦ if is_suspected g known b.v then Some (b.v + 1) else None
  | body.NewView b ↦ Some b.v
  | _ ↦ None
]

-- The present view: the greatest that is shown, else 0.
unfoldable pub view : Group → List (Signed Body) → ℕ
view g known = greatest_of (filter_map (view_shown g known) known)

unfoldable pub is_open : Group → List (Signed Body) → Bool
is_open g known = nat_eq (view g known) 0 || is_opened known (view g known)

-- the master's report of view v
abbrev pub report_by : ℕ → ℕ → Signed Body → Option (Signed Report)
report_by v master f = elim f.body [
  | body.Report b ↦ if nat_eq f.signer master && nat_eq b.v v then Some record {
    signer = f.signer;
    body = b;
    sig = f.sig;
  } else None
  | _ ↦ None
]

-- the first known report of view v of each master, by rising master
abbrev pub first_reports : Group → List (Signed Body) → ℕ → List (Signed Report)
first_reports g known v =
    filter_map (λ master. first_of_list (filter_map (report_by v master) known)) (numbers_below g.n)

abbrev pub reports_said : ℕ → Body → Bool
reports_said v word = elim word [ body.Report b ↦ nat_eq b.v v | _ ↦ false ]

abbrev pub new_views_said : ℕ → Body → Bool
new_views_said v word = elim word [ body.NewView b ↦ nat_eq b.v v | _ ↦ false ]

-- a report of the present view, once a quorum suspects the leader before, with what is brought along
abbrev pub report_due : Group → List (Signed Body) → List Body → ℕ → List (Signed Mark) → List Certificate → List Body
report_due g known said base marks certificates =
    if nat_le 1 (view g known) && is_suspected g known (view g known - 1)
    && not (list_any (reports_said (view g known)) said)
    then body.Report record { v = view g known; base = base; marks = marks; certificates = certificates } ∷ []
    else []

-- the leader opens the present view once it knows reports of a quorum: the first known of the q lowest masters
abbrev pub new_view_due : Group → ℕ → List (Signed Body) → List Body → List Body
new_view_due g me known said =
    if nat_le 1 (view g known) && nat_eq me (leader_of g (view g known))
    && nat_le g.q (length (first_reports g known (view g known)))
    && not (list_any (new_views_said (view g known)) said)
    then body.NewView record { v = view g known; reports = take g.q (first_reports g known (view g known)) } ∷ []
    else []
