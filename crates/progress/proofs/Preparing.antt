-- What an open view offers, where it is worth it and within the window, a master has prepared at its last event, with the
-- digest of the rows offered: these stay what they were once they are known.
use Rattle.std.proofs.Common.{◌≡◌, ℕ, ◌+◌, ◌-◌, ◌≤◌, Bool, true, false, cond, List, [], ◌∷◌, ◌++◌, Option, Some}
use Rattle.std.proofs.Common.{None, filter, length, nat_eq, nat_le, refl, sym, ◌∙◌, ap, subst, inl, inr, arith, eqb-true}
use Rattle.std.proofs.Common.{if◌then◌else◌}
use Rattle.std.proofs.lemmas.Bool.{false≢true, and_parts, cases_Bool}
use Rattle.std.proofs.lemmas.List.Elements.{filter_map-append}
use Rattle.std.proofs.lemmas.Grind.{flat_map-append}
use Rattle.std.specs.Prelude.{slice_get}
use Rattle.std.specs.List.{list_any, filter_map, flat_map}
use Rattle.plain_lists.specs.Lists.{IsIn, here, Begins}
use Rattle.plain_lists.proofs.Members.{any_from, in_left, in_flat_map, in_filter_from, some_same, none_some}
use Rattle.message_types.specs.declared.signed.Signed.{Signed}
use Rattle.message_types.specs.declared.views.Plan.{Plan}
use Rattle.message_types.specs.declared.body.Body.{Body}
use Rattle.message_types.specs.declared.body.Body.TheVariants as body
use Rattle.message_types.specs.Digests.{digest_of_rows}
use Rattle.protocol_rules.specs.declared.facts.OrderFact.{OrderFact}
use Rattle.protocol_rules.specs.Words.{first_of_list}
use Rattle.protocol_rules.specs.Group.{Group, window}
use Rattle.protocol_rules.specs.Facts.{tells, facts_of}
use Rattle.protocol_rules.specs.Plans.{first_plan}
use Rattle.protocol_rules.specs.Order.{stable, plan_in, plan_known, proposal_in, offered, prepares_said, prepare_due, commits_due, marks_due, in_window}
use Rattle.protocol_rules.specs.Views.{view, is_open}
use Rattle.protocol_rules.specs.Worth.{is_worth, worthy_prepares_due}
use Rattle.protocol_rules.specs.Master.{Heard, said_before}
use Rattle.protocol_rules.proofs.Numbers.{from_in}
use Rattle.history_rules.specs.Events.{Entry}
use Rattle.history_rules.specs.Legal.{Stands, IsLegal, heard, known_of}
use Rattle.history_rules.specs.Audit.{HasSaid}
use Rattle.agreement.specs.Laws.{known_by}
use Rattle.agreement.proofs.Places.{said_whole, stands_on, legal_before}
use Rattle.agreement.proofs.KnownAsItGrows.{known_then}
use Rattle.agreement.proofs.LearnedWasSaid.{FirstSaid, first_said_before, due_first}
use Rattle.words_by_part.specs.Kinds.{is_of, ordering}
use Rattle.progress.specs.Laws.{OfferedIsPrepared}
use Rattle.progress.proofs.Arriving.{known_from, known_grows}
use Rattle.progress.proofs.Saying.{SaidByPart, LastEvent, last_event, known_last, all_is_said, said_by_part}

-- what is found first stays so
first_more : {F X : Type 0} (f : F → Option X) (xs ys : List F) (x : X) → first_of_list (filter_map f xs) ≡ Some x →
    first_of_list (filter_map f (xs ++ ys)) ≡ Some x
first_more {F} {X} f xs ys x e = ap first_of_list (filter_map-append f xs ys) ∙ by (filter_map f xs) e
  where
    by : (zs : List X) → first_of_list zs ≡ Some x → first_of_list (zs ++ filter_map f ys) ≡ Some x
    by [] e = absurd (none_some e)
    by (z ∷ zs) e = e

pub plan_stays : (facts more : List OrderFact) (v : ℕ) (plan : Plan) → plan_known facts v ≡ Some plan →
    plan_known (facts ++ more) v ≡ Some plan
plan_stays facts more v plan e = by (nat_eq v 0) e
  where
    by : (b : Bool) → cond b (Some first_plan) (first_of_list (filter_map (plan_in v) facts)) ≡ Some plan →
        cond b (Some first_plan) (first_of_list (filter_map (plan_in v) (facts ++ more))) ≡ Some plan
    by true e = e
    by false e = first_more (plan_in v) facts more plan e

abbrev offered_by : List OrderFact → ℕ → ℕ → Option Plan → Option (List (List ℕ))
offered_by facts v s o = elim o [
  | None ↦ None
  | Some plan ↦
      if nat_le s plan.base then None
      else if nat_le s (plan.base + length plan.rows) then slice_get plan.rows (s - plan.base - 1)
      else first_of_list (filter_map (proposal_in v s) facts)
]

pub offered_stays : (facts more : List OrderFact) (v s : ℕ) (rows : List (List ℕ)) → offered facts v s ≡ Some rows →
    offered (facts ++ more) v s ≡ Some rows
unfolding offered
offered_stays facts more v s rows e = by (plan_known facts v) refl e
  where
    inner : (a b : Bool) (planned : Option (List (List ℕ))) →
        cond a None (cond b planned (first_of_list (filter_map (proposal_in v s) facts))) ≡ Some rows
        → cond a None (cond b planned (first_of_list (filter_map (proposal_in v s) (facts ++ more)))) ≡ Some rows
    inner true b planned e = absurd (none_some e)
    inner false true planned e = e
    inner false false planned e = first_more (proposal_in v s) facts more rows e

    by : (o : Option Plan) → plan_known facts v ≡ o → offered_by facts v s o ≡ Some rows →
        offered_by (facts ++ more) v s (plan_known (facts ++ more) v) ≡ Some rows
    by None is e = absurd (none_some e)
    by (Some plan) is e = ap (offered_by (facts ++ more) v s) (plan_stays facts more v plan is)
        ∙ inner (nat_le s plan.base) (nat_le s (plan.base + length plan.rows)) (slice_get plan.rows (s - plan.base - 1)) e

-- where more is known
offered_later : (g : Group) (known more : List (Signed Body)) (v s : ℕ) (rows : List (List ℕ)) → Begins known more →
    offered (facts_of g known) v s ≡ Some rows → offered (facts_of g more) v s ≡ Some rows
unfolding facts_of
offered_later g known more v s rows b e = subst (λ (ps : List (Signed Body)). offered (flat_map (tells g) ps) v s ≡ Some rows)
    (sym b.same) (ap (λ (facts : List OrderFact). offered facts v s) (flat_map-append (tells g) known b.rest)
    ∙ offered_stays (flat_map (tells g) known) (flat_map (tells g) b.rest) v s rows e)

-- nothing is offered where nothing is known
none_offered : (g : Group) (v s : ℕ) (rows : List (List ℕ)) → offered (facts_of g (known_of [])) v s ≡ Some rows → ⊥
unfolding offered facts_of known_of
none_offered g v s rows e = by (nat_eq v 0) e
  where
    neither : (a b : Bool) → cond a None (cond b None None) ≡ Some rows → ⊥
    neither true b e = none_some e
    neither false true e = none_some e
    neither false false e = none_some e

    by : (b : Bool) → offered_by [] v s (cond b (Some first_plan) None) ≡ Some rows → ⊥
    by false e = none_some e
    by true e = neither (nat_le s 0) (nat_le s (0 + 0)) e

prepares_from : (v s : ℕ) (b : Body) → prepares_said v s b ≡ true → (digest : List ℕ)
    × (b ≡ body.Prepare record { v = v; s = s; digest = digest })
prepares_from v s (body.Prepare b) h =
    let both = and_parts (nat_eq b.v v) (nat_eq b.s s) h in
    let is_v : b.v ≡ v = eqb-true b.v v both.0 in
    let is_s : b.s ≡ s = eqb-true b.s s both.1 in
    (b.digest, λ i. body.Prepare record { v = is_v i; s = is_s i; digest = b.digest })
prepares_from v s _ h = absurd (false≢true h)

-- the prepare that is due
prepare_is_due : (facts : List OrderFact) (said : List Body) (v s : ℕ) (rows : List (List ℕ)) →
    list_any (prepares_said v s) said ≡ false → offered facts v s ≡ Some rows
    → IsIn (body.Prepare record { v = v; s = s; digest = digest_of_rows rows }) (prepare_due facts said v s)
prepare_is_due facts said v s rows none e =
    subst (λ (b : Bool). IsIn (word rows) (cond b [] (elim (offered facts v s) [
      | Some rows ↦ body.Prepare record { v = v; s = s; digest = digest_of_rows rows }
          ∷ []
      | None ↦ []
    ]))) (sym none) (subst (λ (o : Option (List (List ℕ))). IsIn (word rows) (elim o [
      | Some rows ↦ body.Prepare record { v = v; s = s; digest = digest_of_rows rows }
          ∷ []
      | None ↦ []
    ])) (sym e) (here []))
  where
    word : List (List ℕ) → Body
    word rows = body.Prepare record { v = v; s = s; digest = digest_of_rows rows }

worthy_is_due : (g : Group) (facts : List OrderFact) (said : List Body) (v s : ℕ) (opened : Bool) (b : Body) → opened ≡ true
    → is_worth g facts v s ≡ true → 1 ≤ s → s ≤ stable g facts + window → IsIn b (prepare_due facts said v s)
    → IsIn b (worthy_prepares_due g facts said v opened)
worthy_is_due g facts said v s opened b is worth one low h =
    subst (λ (c : Bool). IsIn b (cond c (flat_map (λ s. if is_worth g facts v s then prepare_due facts said v s else [])
    (in_window g facts)) [])) (sym is)
    (in_flat_map (λ s. if is_worth g facts v s then prepare_due facts said v s else [])
    (from_in 1 (stable g facts + window) s one (omega arith))
    (subst (λ (c : Bool). IsIn b (cond c (prepare_due facts said v s) [])) (sym worth) h))

pub offered_is_prepared : OfferedIsPrepared
offered_is_prepared w history beginning m v s rows live legal begins correct left in_view opened offers worth one low =
    elim (last_event w m beginning) [
      | inl none ↦ absurd (none_offered w.group v s rows
          (subst (λ (hs : List Heard). offered (facts_of w.group (known_of hs)) v s ≡ Some rows) none offers))
      | inr last ↦ at_last last
    ]
  where
    word : List ℕ → Body
    word digest = body.Prepare record { v = v; s = s; digest = digest }

    before_legal : IsLegal w beginning
    before_legal = legal_before w beginning begins.rest (subst (λ (xs : List Entry). IsLegal w xs) begins.same legal)

    at_last : LastEvent w beginning m → HasSaid beginning m (word (digest_of_rows rows))
    at_last last =
        let known : List (Signed Body) = known_then w last.before m last.entry in
        let is : known_by w beginning m ≡ known = known_last w beginning m last in
        let said : List Body = said_before (heard w last.before m) in
        elim (cases_Bool (list_any (prepares_said v s) said)) [
          | inl was ↦
              let found = any_from (prepares_said v s) said was in
              let prepare = prepares_from v s found.0 found.2 in
              let legal_then : IsLegal w last.before = legal_before w last.before (last.entry ∷ last.place.after)
              (subst (λ (xs : List Entry). IsLegal w xs) last.place.whole before_legal) in
              let earlier : FirstSaid w last.before m (word prepare.0) = first_said_before w m (word prepare.0) correct
              last.before legal_then (subst (λ (b : Body). IsIn b said) prepare.1 found.1) in
              let due = due_first w last.before m (word prepare.0) earlier in
              let first : List (Signed Body) = known_then w earlier.said.before m earlier.said.entry in
              let grown : Begins first (known_by w last.before m) = known_from w m earlier.said.place earlier.said.by
              earlier.loud in
              let on : Begins (known_by w last.before m) (known_by w beginning m) = known_grows w beginning last.before m
              record { rest = last.entry ∷ last.place.after; same = last.place.whole } in
              let later : offered (facts_of w.group (known_by w beginning m)) v s ≡ Some due.1.0 =
              offered_later w.group (known_by w last.before m) (known_by w beginning m) v s due.1.0 on
              (offered_later w.group first (known_by w last.before m) v s due.1.0 grown due.1.1) in
              let same : due.1.0 ≡ rows = some_same (sym later ∙ offers) in
              subst (λ (d : List ℕ). HasSaid beginning m (word d)) (due.1.2 ∙ ap digest_of_rows same)
              (said_whole last.place earlier.said)
          | inr wasn't ↦
              let there : Stands history last.before last.entry =
              subst (λ (xs : List Entry). Stands xs last.before last.entry) (sym begins.same)
              (stands_on begins.rest last.place) in
              let parts : SaidByPart w last.before m last.entry = said_by_part w last.before m last.entry live
              (all_is_said w history last.before last.entry m legal correct left there last.by last.loud) in
              let facts : List OrderFact = facts_of w.group known in
              let of_known : (P : List (Signed Body) → Type 0) → P (known_by w beginning m) → P known =
              λ P h. subst P is h in
              let now : view w.group known ≡ v = of_known (λ ps. view w.group ps ≡ v) in_view in
              let due : IsIn (word (digest_of_rows rows)) (worthy_prepares_due w.group facts said v (is_open w.group known)) =
              worthy_is_due w.group facts said v s (is_open w.group known) (word (digest_of_rows rows))
              (of_known (λ ps. is_open w.group ps ≡ true) opened)
              (of_known (λ ps. is_worth w.group (facts_of w.group ps) v s ≡ true) worth) one
              (of_known (λ ps. s ≤ stable w.group (facts_of w.group ps) + window) low)
              (prepare_is_due facts said v s rows wasn't
              (of_known (λ ps. offered (facts_of w.group ps) v s ≡ Some rows) offers)) in
              let ordering_said : IsIn (word (digest_of_rows rows)) (filter (is_of ordering) last.entry.said) =
              subst (λ (bs : List Body). IsIn (word (digest_of_rows rows)) bs) (sym parts.orders_said)
              (in_left (marks_due w.group facts said) (in_left (commits_due w.group facts said (view w.group known))
              (subst (λ (x : ℕ). IsIn (word (digest_of_rows rows))
              (worthy_prepares_due w.group facts said x (is_open w.group known))) (sym now) due))) in
              record {
                before = last.before;
                entry = last.entry;
                place = last.place;
                by = last.by;
                among = (in_filter_from (is_of ordering) last.entry.said ordering_said).0;
              }
        ]
