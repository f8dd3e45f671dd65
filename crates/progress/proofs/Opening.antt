-- A view that all connected masters came to, and one of them leads, opens: each reports at its last event; a round later the
-- leader knows the reports of all, a quorum, and says its new view; and a round after that each knows it.
use Rattle.std.proofs.Common.{◌≡◌, ℕ, ◌+◌, ◌-◌, ◌≤◌, Bool, true, false, cond, ◌&&◌, not, List, [], ◌∷◌, ◌++◌}
use Rattle.std.proofs.Common.{Some, None, length, take, nat_eq, nat_le, refl, sym, ◌∙◌, ap, subst, inl, inr, ◌⊎◌, arith, eqb-true}
use Rattle.std.proofs.lemmas.Bool.{false≢true, and_from, or_right, cases_eq, cases_Bool, not_from_false, ne_eqb, eq-eqb, le-leb}
use Rattle.std.specs.Option.{is_some}
use Rattle.std.specs.List.{list_any, filter_map}
use Rattle.plain_lists.specs.Lists.{IsIn, here, Begins}
use Rattle.plain_lists.proofs.Members.{in_left, in_right, in_filter_from, in_filter_map, any_from, any_in}
use Rattle.quorum_sets.specs.Masters.{numbers_below, voters}
use Rattle.message_types.specs.declared.signed.Signed.{Signed}
use Rattle.message_types.specs.declared.ordering.Mark.{Mark}
use Rattle.message_types.specs.declared.ordering.Certificate.{Certificate}
use Rattle.message_types.specs.declared.views.Report.{Report}
use Rattle.message_types.specs.declared.views.NewView.{NewView}
use Rattle.message_types.specs.declared.body.Body.{Body}
use Rattle.message_types.specs.declared.body.Body.TheVariants as body
use Rattle.protocol_rules.specs.Words.{first_of_list}
use Rattle.protocol_rules.specs.Group.{Group, is_live, leader_of}
use Rattle.protocol_rules.specs.Facts.{facts_of}
use Rattle.protocol_rules.specs.Order.{stable, marks_for, certificates_below}
use Rattle.protocol_rules.specs.Views.{view, is_open, is_opened, is_suspected, report_by, first_reports, reports_said, report_due}
use Rattle.protocol_rules.specs.Views.{new_views_said, new_view_due, new_view_in}
use Rattle.protocol_rules.specs.Master.{said_before}
use Rattle.protocol_rules.proofs.FirstMet.{first_there}
use Rattle.history_rules.specs.Events.{Entry}
use Rattle.history_rules.specs.Setup.{Setup, is_correct_master, room, own}
use Rattle.history_rules.specs.Legal.{IsLegal, heard, known_of}
use Rattle.history_rules.specs.Audit.{HasSaid}
use Rattle.agreement.specs.Laws.{known_by}
use Rattle.agreement.proofs.Places.{said_whole, legal_before}
use Rattle.agreement.proofs.KnownAsItGrows.{known_then}
use Rattle.agreement.proofs.LearnedWasSaid.{FirstSaid, first_said_before}
use Rattle.agreement.proofs.SaidOnce.{length-filter_map}
use Rattle.agreement.proofs.QuorumsStay.{filter_more, view_more}
use Rattle.words_by_part.specs.Kinds.{is_of, changing_views}
use Rattle.progress.specs.Rounds.{goes_to}
use Rattle.progress.specs.Laws.{KnowsWord}
use Rattle.progress.specs.Leaving.{ViewOpens}
use Rattle.progress.proofs.Arriving.{in_more, known_grows, words_arrive}
use Rattle.progress.proofs.Saying.{SaidByPart, LastEvent, last_event, known_last, all_is_said, said_by_part}
use Rattle.progress.proofs.Reaching.{left_before}

-- in a view above 0 something is known
no_view : (g : Group) (v : ℕ) → view g (known_of []) ≡ v + 1 → ⊥
unfolding view known_of
no_view g v e = let none : 0 ≡ v + 1 = e in omega (arith, none)

report_from : (v : ℕ) (b : Body) → reports_said v b ≡ true → (r : Report) × (b ≡ body.Report r) × (r.v ≡ v)
report_from v (body.Report b) e = (b, refl, eqb-true b.v v e)
report_from v _ e = absurd (false≢true e)

opening_from : (v : ℕ) (b : Body) → new_views_said v b ≡ true → (n : NewView) × (b ≡ body.NewView n) × (n.v ≡ v)
opening_from v (body.NewView b) e = (b, refl, eqb-true b.v v e)
opening_from v _ e = absurd (false≢true e)

-- what a master reports, and a leader opens its view with
abbrev report_now : Group → List (Signed Body) → Report
report_now g known = record {
  v = view g known;
  base = stable g (facts_of g known);
  marks = marks_for g (facts_of g known) (stable g (facts_of g known));
  certificates = certificates_below g (facts_of g known) (view g known);
}

abbrev opening_now : Group → List (Signed Body) → NewView
opening_now g known = record { v = view g known; reports = take g.q (first_reports g known (view g known)) }

-- the report that is due
report_is_due : (g : Group) (known : List (Signed Body)) (said : List Body) (base : ℕ) (marks : List (Signed Mark))
    (certificates : List Certificate) → 1 ≤ view g known → is_suspected g known (view g known - 1) ≡ true
    → list_any (reports_said (view g known)) said ≡ false
    → IsIn (body.Report record { v = view g known; base = base; marks = marks; certificates = certificates })
    (report_due g known said base marks certificates)
report_is_due g known said base marks certificates above suspected none =
    subst (λ (c : Bool). IsIn (body.Report record { v = view g known; base = base; marks = marks; certificates = certificates })
    (cond c (body.Report record { v = view g known; base = base; marks = marks; certificates = certificates } ∷ []) []))
    (sym (and_from (nat_le 1 (view g known) && is_suspected g known (view g known - 1))
    (not (list_any (reports_said (view g known)) said)) (and_from (nat_le 1 (view g known))
    (is_suspected g known (view g known - 1)) (le-leb 1 (view g known) above) suspected)
    (not_from_false (list_any (reports_said (view g known)) said) none))) (here [])

-- and the new view
opening_is_due : (g : Group) (me : ℕ) (known : List (Signed Body)) (said : List Body) → 1 ≤ view g known
    → me ≡ leader_of g (view g known) → g.q ≤ length (first_reports g known (view g known))
    → list_any (new_views_said (view g known)) said ≡ false
    → IsIn (body.NewView record { v = view g known; reports = take g.q (first_reports g known (view g known)) })
    (new_view_due g me known said)
opening_is_due g me known said above leads many none =
    subst (λ (c : Bool). IsIn (body.NewView record { v = view g known; reports = take g.q (first_reports g known (view g known)) })
    (cond c (body.NewView record { v = view g known; reports = take g.q (first_reports g known (view g known)) } ∷ []) []))
    (sym (and_from (nat_le 1 (view g known) && nat_eq me (leader_of g (view g known))
    && nat_le g.q (length (first_reports g known (view g known)))) (not (list_any (new_views_said (view g known)) said))
    (and_from (nat_le 1 (view g known) && nat_eq me (leader_of g (view g known)))
    (nat_le g.q (length (first_reports g known (view g known))))
    (and_from (nat_le 1 (view g known)) (nat_eq me (leader_of g (view g known))) (le-leb 1 (view g known) above)
    (eq-eqb me (leader_of g (view g known)) leads)) (le-leb g.q (length (first_reports g known (view g known))) many))
    (not_from_false (list_any (new_views_said (view g known)) said) none))) (here [])

-- to every other master go reports and new views
report_sent : (g : Group) (m i : ℕ) (b : Report) → (m ≡ i) ⊎ (goes_to g i (body.Report b) m ≡ true)
report_sent g m i b = elim (cases_eq m i) [
  | inl same ↦ inl same
  | inr apart ↦ inr (not_from_false (nat_eq m i) (ne_eqb m i apart))
]

opening_sent : (g : Group) (m i : ℕ) (b : NewView) → (m ≡ i) ⊎ (goes_to g i (body.NewView b) m ≡ true)
opening_sent g m i b = elim (cases_eq m i) [
  | inl same ↦ inl same
  | inr apart ↦ inr (not_from_false (nat_eq m i) (ne_eqb m i apart))
]

report_known : (v i signer : ℕ) (word : Body) (sig : List ℕ) (r : Report) → signer ≡ i → word ≡ body.Report r → r.v ≡ v →
    report_by v i record { signer = signer; body = word; sig = sig } ≡ Some record { signer = signer; body = r; sig = sig }
report_known v i signer word sig r by is of_v =
    subst (λ (b : Body). report_by v i record { signer = signer; body = b; sig = sig } ≡ Some the_frame) (sym is)
    (ap (λ (c : Bool). cond c (Some the_frame) None) (and_from (nat_eq signer i) (nat_eq r.v v) (eq-eqb signer i by)
    (eq-eqb r.v v of_v)))
  where
    the_frame : Signed Report
    the_frame = record { signer = signer; body = r; sig = sig }

opening_known : (v signer : ℕ) (word : Body) (sig : List ℕ) (b : NewView) → word ≡ body.NewView b → b.v ≡ v →
    is_some (new_view_in v record { signer = signer; body = word; sig = sig }) ≡ true
opening_known v signer word sig b is of_v =
    subst (λ (x : Body). is_some (new_view_in v record { signer = signer; body = x; sig = sig }) ≡ true) (sym is)
    (ap (λ (c : Bool). is_some (cond c (Some the_frame) None)) (eq-eqb b.v v of_v))
  where
    the_frame : Signed NewView
    the_frame = record { signer = signer; body = b; sig = sig }

-- where each of a quorum's reports is known there are as many first ones
reports_enough : (g : Group) (connected : ℕ → Bool) (known : List (Signed Body)) (v : ℕ) → g.q ≤ length (voters connected g.n)
    → ((i : ℕ) → connected i ≡ true → is_some (first_of_list (filter_map (report_by v i) known)) ≡ true)
    → g.q ≤ length (first_reports g known v)
reports_enough g connected known v enough each =
    let same : length (first_reports g known v) ≡ length
    (voters (λ m. is_some (first_of_list (filter_map (report_by v m) known))) g.n) =
    length-filter_map (λ m. first_of_list (filter_map (report_by v m) known)) (numbers_below g.n) in
    let more : length (voters connected g.n) ≤ length
    (voters (λ m. is_some (first_of_list (filter_map (report_by v m) known))) g.n) =
    filter_more connected (λ m. is_some (first_of_list (filter_map (report_by v m) known))) each (numbers_below g.n) in
    omega (arith, same, more, enough)

opened_by : (g : Group) (known : List (Signed Body)) (v : ℕ) → view g known ≡ v → is_opened known v ≡ true → is_open g known ≡ true
unfolding is_open
opened_by g known v in_v opens = or_right (nat_eq (view g known) 0) (is_opened known (view g known))
    (ap (is_opened known) in_v ∙ opens)

module _ (w : Setup) (history : List Entry) (m v : ℕ) (live : is_live w.group ≡ true) (legal : IsLegal w history)
    (correct : is_correct_master w m ≡ true) (left : 1 ≤ room w (own history m))
    (in_view : view w.group (known_by w history m) ≡ v + 1) where
  -- the master's last event, and what it said before
  module _ (last : LastEvent w history m) where
    known_there : List (Signed Body)
    known_there = known_then w last.before m last.entry

    abbrev said : List Body
    said = said_before (heard w last.before m)

    at_view : view w.group (known_then w last.before m last.entry) ≡ v + 1
    at_view = ap (view w.group) (sym (known_last w history m last)) ∙ in_view

    parts : SaidByPart w last.before m last.entry
    parts = said_by_part w last.before m last.entry live (all_is_said w history last.before last.entry m legal correct left
        last.place last.by last.loud)

    was_said : (b : Body) → IsIn b said → HasSaid history m b
    was_said b h =
        let legal_then : IsLegal w last.before = legal_before w last.before (last.entry ∷ last.place.after)
        (subst (λ (xs : List Entry). IsLegal w xs) last.place.whole legal) in
        let earlier : FirstSaid w last.before m b = first_said_before w m b correct last.before legal_then h in
        said_whole last.place earlier.said

    now_said : (b : Body) → IsIn b last.entry.said → HasSaid history m b
    now_said b h = record { before = last.before; entry = last.entry; place = last.place; by = last.by; among = h }

  -- it has reported
  pub reported : is_suspected w.group (known_by w history m) v ≡ true → (r : Report) × HasSaid history m (body.Report r)
      × (r.v ≡ v + 1)
  reported suspected = elim (last_event w m history) [
    | inl none ↦ absurd (no_view w.group v (subst (λ hs. view w.group (known_of hs) ≡ v + 1) none in_view))
    | inr last ↦ elim (cases_Bool (list_any (reports_said (view w.group (known_then w last.before m last.entry)))
        (said_before (heard w last.before m)))) [
          | inl was ↦
              let found = any_from (reports_said (view w.group (known_then w last.before m last.entry)))
              (said_before (heard w last.before m)) was in
              let is = report_from (view w.group (known_then w last.before m last.entry)) found.0 found.2 in
              (is.0, subst (λ (b : Body). HasSaid history m b) is.1 (was_said last found.0 found.1), is.2 ∙ at_view last)
          | inr fresh ↦
              let there : view w.group (known_then w last.before m last.entry) ≡ v + 1 = at_view last in
              let lower : view w.group (known_then w last.before m last.entry) - 1 ≡ v = omega (arith, there) in
              let votes : is_suspected w.group (known_then w last.before m last.entry)
              (view w.group (known_then w last.before m last.entry) - 1) ≡ true =
              ap (is_suspected w.group (known_then w last.before m last.entry)) lower
              ∙ ap (λ (ps : List (Signed Body)). is_suspected w.group ps v) (sym (known_last w history m last)) ∙ suspected in
              let word : Body = body.Report (report_now w.group (known_then w last.before m last.entry)) in
              let due = report_is_due w.group (known_then w last.before m last.entry) (said_before (heard w last.before m))
              (report_now w.group (known_then w last.before m last.entry)).base
              (report_now w.group (known_then w last.before m last.entry)).marks
              (report_now w.group (known_then w last.before m last.entry)).certificates (omega (arith, there)) votes fresh in (
                report_now w.group (known_then w last.before m last.entry),
                now_said last word (in_filter_from (is_of changing_views) last.entry.said
                    (subst (λ (bs : List Body). IsIn word bs) (sym (parts last).views)
                    (in_left (new_view_due w.group m (known_then w last.before m last.entry) (said_before (heard w last.before m)))
                    due))).0,
                there,
              )
        ]
  ]

  -- and as the leader, with a quorum's reports, opened the view
  pub opened_view : m ≡ leader_of w.group (v + 1) → w.group.q ≤ length (first_reports w.group (known_by w history m) (v + 1))
      → (b : NewView) × HasSaid history m (body.NewView b) × (b.v ≡ v + 1)
  opened_view leads many = elim (last_event w m history) [
    | inl none ↦ absurd (no_view w.group v (subst (λ hs. view w.group (known_of hs) ≡ v + 1) none in_view))
    | inr last ↦ elim (cases_Bool (list_any (new_views_said (view w.group (known_then w last.before m last.entry)))
        (said_before (heard w last.before m)))) [
          | inl was ↦
              let found = any_from (new_views_said (view w.group (known_then w last.before m last.entry)))
              (said_before (heard w last.before m)) was in
              let is = opening_from (view w.group (known_then w last.before m last.entry)) found.0 found.2 in
              (is.0, subst (λ (b : Body). HasSaid history m b) is.1 (was_said last found.0 found.1), is.2 ∙ at_view last)
          | inr fresh ↦
              let there : view w.group (known_then w last.before m last.entry) ≡ v + 1 = at_view last in
              let enough : w.group.q ≤ length (first_reports w.group (known_then w last.before m last.entry)
              (view w.group (known_then w last.before m last.entry))) = subst (λ (x : ℕ). w.group.q ≤ length (first_reports w.group
              (known_then w last.before m last.entry) x)) (sym there) (subst (λ (ps : List (Signed Body)). w.group.q ≤ length
              (first_reports w.group ps (v + 1))) (known_last w history m last) many) in
              let word : Body = body.NewView (opening_now w.group (known_then w last.before m last.entry)) in
              let due = opening_is_due w.group m (known_then w last.before m last.entry) (said_before (heard w last.before m))
              (omega (arith, there)) (leads ∙ ap (leader_of w.group) (sym there)) enough fresh in (
                opening_now w.group (known_then w last.before m last.entry),
                now_said last word (in_filter_from (is_of changing_views) last.entry.said
                    (subst (λ (bs : List Body). IsIn word bs) (sym (parts last).views)
                    (in_right (report_due w.group (known_then w last.before m last.entry) (said_before (heard w last.before m))
                    (report_now w.group (known_then w last.before m last.entry)).base
                    (report_now w.group (known_then w last.before m last.entry)).marks
                    (report_now w.group (known_then w last.before m last.entry)).certificates) due))).0,
                there,
              )
        ]
  ]

pub view_opens : ViewOpens
view_opens w connected beginning first second live legal are fair next left v leads came stayed suspected m is_m =
    let one : List Entry = beginning ++ first in
    let two : List Entry = one ++ second in
    let leader : ℕ = leader_of w.group (v + 1) in
    let legal_one : IsLegal w one = legal_before w one second legal in
    let left_one : (i : ℕ) → connected i ≡ true → 1 ≤ room w (own (beginning ++ first) i) = λ i is_i.
    left_before w one second i (left i is_i) in
    let in_one : view w.group (known_by w (beginning ++ first) (leader_of w.group (v + 1))) ≡ v + 1 =
    between leader leads in
    let reports : (i : ℕ) → connected i ≡ true → is_some (first_of_list (filter_map (report_by (v + 1) i)
    (known_by w (beginning ++ first) (leader_of w.group (v + 1))))) ≡ true = λ i is_i.
    let r = reported w beginning i v live (legal_before w beginning first legal_one) (are.correct i is_i)
    (left_before w beginning first i (left_one i is_i)) (came i is_i) (suspected i is_i) in
    let knows : KnowsWord (known_by w (beginning ++ first) (leader_of w.group (v + 1))) i (body.Report r.0) = words_arrive w
    connected beginning first legal_one are fair i leader is_i leads (body.Report r.0) r.1 (report_sent w.group leader i r.0) in
    let there = first_there (in_filter_map (report_by (v + 1) i) knows.among (report_known (v + 1) i knows.part.signer
    knows.part.body knows.part.sig r.0 knows.by knows.word r.2)) in
    ap is_some there.1 in
    let opening = opened_view w one leader v live legal_one (are.correct leader leads) (left_one leader leads) in_one refl
    (reports_enough w.group connected (known_by w one leader) (v + 1) are.enough reports) in
    let knows : KnowsWord (known_by w ((beginning ++ first) ++ second) m) (leader_of w.group (v + 1)) (body.NewView opening.0) =
    words_arrive w connected one second legal are next leader m leads is_m (body.NewView opening.0) opening.1
    (opening_sent w.group m leader opening.0) in
    opened_by w.group (known_by w two m) (v + 1) (stayed m is_m) (any_in (λ f. is_some (new_view_in (v + 1) f)) knows.among
    (opening_known (v + 1) knows.part.signer knows.part.body knows.part.sig opening.0 knows.word opening.2))
  where
    between : (i : ℕ) → connected i ≡ true → view w.group (known_by w (beginning ++ first) i) ≡ v + 1
    between i is_i =
        let start : Begins (known_by w beginning i) (known_by w (beginning ++ first) i) = known_grows w (beginning ++ first)
        beginning i record { rest = first; same = refl } in
        let on : Begins (known_by w (beginning ++ first) i) (known_by w ((beginning ++ first) ++ second) i) = known_grows w
        ((beginning ++ first) ++ second) (beginning ++ first) i record { rest = second; same = refl } in
        let low : view w.group (known_by w beginning i) ≤ view w.group (known_by w (beginning ++ first) i) = view_more w.group
        (known_by w beginning i) (known_by w (beginning ++ first) i) (λ p h. in_more start h) in
        let high : view w.group (known_by w (beginning ++ first) i) ≤ view w.group (known_by w ((beginning ++ first) ++ second) i)
        = view_more w.group (known_by w (beginning ++ first) i) (known_by w ((beginning ++ first) ++ second) i)
        (λ p h. in_more on h) in
        let was : view w.group (known_by w beginning i) ≡ v + 1 = came i is_i in
        let is : view w.group (known_by w ((beginning ++ first) ++ second) i) ≡ v + 1 = stayed i is_i in
        omega (arith, low, high, was, is)
