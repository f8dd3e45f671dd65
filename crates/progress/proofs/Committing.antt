-- What a master knows to be prepared in its present view, within the window, it has committed at its last event, with the
-- digest of these rows: what was prepared first stays so.
use Rattle.std.proofs.Common.{◌≡◌, ℕ, ◌+◌, ◌≤◌, Bool, true, false, cond, List, [], ◌∷◌, ◌++◌, Option, Some}
use Rattle.std.proofs.Common.{None, filter, nat_eq, sym, ◌∙◌, ap, subst, inl, inr, arith, eqb-true}
use Rattle.std.proofs.lemmas.Bool.{false≢true, and_parts, cases_Bool}
use Rattle.std.proofs.lemmas.Grind.{flat_map-append}
use Rattle.std.specs.List.{list_any, find, flat_map}
use Rattle.plain_lists.specs.Lists.{IsIn, here, Begins}
use Rattle.plain_lists.proofs.Members.{any_from, in_left, in_right, in_flat_map, in_filter_from, some_same, none_some}
use Rattle.protocol_rules.proofs.FirstMet.{first_met-more}
use Rattle.message_types.specs.declared.signed.Signed.{Signed}
use Rattle.message_types.specs.declared.body.Body.{Body}
use Rattle.message_types.specs.declared.body.Body.TheVariants as body
use Rattle.message_types.specs.Digests.{digest_of_rows}
use Rattle.protocol_rules.specs.declared.facts.OrderFact.{OrderFact}
use Rattle.protocol_rules.specs.Words.{first_met}
use Rattle.protocol_rules.specs.Group.{Group, window}
use Rattle.protocol_rules.specs.Facts.{tells, facts_of, rows_known}
use Rattle.protocol_rules.specs.Order.{stable, is_voted, prepare_by, prepared, commits_said, commit_due, commits_due, marks_due}
use Rattle.protocol_rules.specs.Views.{view, is_open}
use Rattle.protocol_rules.specs.Worth.{worthy_prepares_due}
use Rattle.protocol_rules.specs.Master.{Heard, said_before}
use Rattle.protocol_rules.proofs.Numbers.{from_in}
use Rattle.history_rules.specs.Events.{Entry}
use Rattle.history_rules.specs.Legal.{Stands, IsLegal, heard, known_of}
use Rattle.history_rules.specs.Audit.{HasSaid}
use Rattle.agreement.specs.Laws.{known_by}
use Rattle.agreement.proofs.Places.{said_whole, stands_on, legal_before}
use Rattle.agreement.proofs.KnownAsItGrows.{known_then}
use Rattle.agreement.proofs.LearnedWasSaid.{FirstSaid, first_said_before, due_first}
use Rattle.words_by_part.specs.Kinds.{is_of, ordering}
use Rattle.progress.specs.Laws.{PreparedIsCommitted}
use Rattle.progress.proofs.Arriving.{known_from, known_grows}
use Rattle.progress.proofs.Saying.{SaidByPart, LastEvent, last_event, known_last, all_is_said, said_by_part}

prepared_stays : (g : Group) (facts more : List OrderFact) (v s : ℕ) (rows : List (List ℕ)) → prepared g facts v s ≡ Some rows
    → prepared g (facts ++ more) v s ≡ Some rows
unfolding prepared
prepared_stays g facts more v s rows e =
    first_met-more (λ beginning. find (λ rows. is_voted g (prepare_by v s (digest_of_rows rows)) beginning)
    (rows_known beginning)) [] facts more e

-- where more is known
pub prepared_later : (g : Group) (known more : List (Signed Body)) (v s : ℕ) (rows : List (List ℕ)) → Begins known more →
    prepared g (facts_of g known) v s ≡ Some rows → prepared g (facts_of g more) v s ≡ Some rows
unfolding facts_of
prepared_later g known more v s rows b e =
    subst (λ (ps : List (Signed Body)). prepared g (flat_map (tells g) ps) v s ≡ Some rows)
    (sym b.same) (ap (λ (facts : List OrderFact). prepared g facts v s) (flat_map-append (tells g) known b.rest)
    ∙ prepared_stays g (flat_map (tells g) known) (flat_map (tells g) b.rest) v s rows e)

-- nothing is prepared where nothing is known
none_prepared : (g : Group) (v s : ℕ) (rows : List (List ℕ)) → prepared g (facts_of g (known_of [])) v s ≡ Some rows → ⊥
unfolding prepared facts_of known_of first_met rows_known
none_prepared g v s rows e = none_some e

commits_from : (v s : ℕ) (b : Body) → commits_said v s b ≡ true → (digest : List ℕ)
    × (b ≡ body.Commit record { v = v; s = s; digest = digest })
commits_from v s (body.Commit b) h =
    let both = and_parts (nat_eq b.v v) (nat_eq b.s s) h in
    let is_v : b.v ≡ v = eqb-true b.v v both.0 in
    let is_s : b.s ≡ s = eqb-true b.s s both.1 in
    (b.digest, λ i. body.Commit record { v = is_v i; s = is_s i; digest = b.digest })
commits_from v s _ h = absurd (false≢true h)

-- the commit that is due
commit_is_due : (g : Group) (facts : List OrderFact) (said : List Body) (v s : ℕ) (rows : List (List ℕ)) →
    list_any (commits_said v s) said ≡ false → prepared g facts v s ≡ Some rows
    → IsIn (body.Commit record { v = v; s = s; digest = digest_of_rows rows }) (commit_due g facts said v s)
commit_is_due g facts said v s rows none e =
    subst (λ (b : Bool). IsIn (word rows) (cond b [] (elim (prepared g facts v s) [
      | Some rows ↦ body.Commit record { v = v; s = s; digest = digest_of_rows rows }
          ∷ []
      | None ↦ []
    ]))) (sym none) (subst (λ (o : Option (List (List ℕ))). IsIn (word rows) (elim o [
      | Some rows ↦ body.Commit record { v = v; s = s; digest = digest_of_rows rows }
          ∷ []
      | None ↦ []
    ])) (sym e) (here []))
  where
    word : List (List ℕ) → Body
    word rows = body.Commit record { v = v; s = s; digest = digest_of_rows rows }

commits_are_due : (g : Group) (facts : List OrderFact) (said : List Body) (v s : ℕ) (b : Body) → 1 ≤ s
    → s ≤ stable g facts + window → IsIn b (commit_due g facts said v s) → IsIn b (commits_due g facts said v)
commits_are_due g facts said v s b one low h = in_flat_map (commit_due g facts said v)
    (from_in 1 (stable g facts + window) s one (omega arith)) h

pub prepared_is_committed : PreparedIsCommitted
prepared_is_committed w history beginning m v s rows live legal begins correct left in_view known_prepared one low =
    elim (last_event w m beginning) [
      | inl none ↦ absurd (none_prepared w.group v s rows
          (subst (λ (hs : List Heard). prepared w.group (facts_of w.group (known_of hs)) v s ≡ Some rows) none known_prepared))
      | inr last ↦ at_last last
    ]
  where
    word : List ℕ → Body
    word digest = body.Commit record { v = v; s = s; digest = digest }

    before_legal : IsLegal w beginning
    before_legal = legal_before w beginning begins.rest (subst (λ (xs : List Entry). IsLegal w xs) begins.same legal)

    at_last : LastEvent w beginning m → HasSaid beginning m (word (digest_of_rows rows))
    at_last last =
        let known : List (Signed Body) = known_then w last.before m last.entry in
        let is : known_by w beginning m ≡ known = known_last w beginning m last in
        let said : List Body = said_before (heard w last.before m) in
        elim (cases_Bool (list_any (commits_said v s) said)) [
          | inl was ↦
              let found = any_from (commits_said v s) said was in
              let commit = commits_from v s found.0 found.2 in
              let legal_then : IsLegal w last.before = legal_before w last.before (last.entry ∷ last.place.after)
              (subst (λ (xs : List Entry). IsLegal w xs) last.place.whole before_legal) in
              let earlier : FirstSaid w last.before m (word commit.0) = first_said_before w m (word commit.0) correct
              last.before legal_then (subst (λ (b : Body). IsIn b said) commit.1 found.1) in
              let due = due_first w last.before m (word commit.0) earlier in
              let first : List (Signed Body) = known_then w earlier.said.before m earlier.said.entry in
              let grown : Begins first (known_by w last.before m) = known_from w m earlier.said.place earlier.said.by
              earlier.loud in
              let on : Begins (known_by w last.before m) (known_by w beginning m) = known_grows w beginning last.before m
              record { rest = last.entry ∷ last.place.after; same = last.place.whole } in
              let later : prepared w.group (facts_of w.group (known_by w beginning m)) v s ≡ Some due.1.0 =
              prepared_later w.group (known_by w last.before m) (known_by w beginning m) v s due.1.0 on
              (prepared_later w.group first (known_by w last.before m) v s due.1.0 grown due.1.1) in
              let same : due.1.0 ≡ rows = some_same (sym later ∙ known_prepared) in
              subst (λ (d : List ℕ). HasSaid beginning m (word d)) (due.1.2 ∙ ap digest_of_rows same)
              (said_whole last.place earlier.said)
          | inr wasn't ↦
              let there : Stands history last.before last.entry =
              subst (λ (xs : List Entry). Stands xs last.before last.entry) (sym begins.same)
              (stands_on begins.rest last.place) in
              let parts : SaidByPart w last.before m last.entry = said_by_part w last.before m last.entry live
              (all_is_said w history last.before last.entry m legal correct left there last.by last.loud) in
              let facts : List OrderFact = facts_of w.group known in
              let of_known : (P : List (Signed Body) → Type 0) → P (known_by w beginning m) → P known =
              λ P h. subst P is h in
              let now : view w.group known ≡ v = of_known (λ ps. view w.group ps ≡ v) in_view in
              let due : IsIn (word (digest_of_rows rows)) (commits_due w.group facts said v) =
              commits_are_due w.group facts said v s (word (digest_of_rows rows)) one
              (of_known (λ ps. s ≤ stable w.group (facts_of w.group ps) + window) low)
              (commit_is_due w.group facts said v s rows wasn't
              (of_known (λ ps. prepared w.group (facts_of w.group ps) v s ≡ Some rows) known_prepared)) in
              let ordering_said : IsIn (word (digest_of_rows rows)) (filter (is_of ordering) last.entry.said) =
              subst (λ (bs : List Body). IsIn (word (digest_of_rows rows)) bs) (sym parts.orders_said)
              (in_left (marks_due w.group facts said)
              (in_right (worthy_prepares_due w.group facts said (view w.group known) (is_open w.group known)) (subst (λ (x : ℕ). IsIn (word (digest_of_rows rows))
              (commits_due w.group facts said x)) (sym now) due))) in
              record {
                before = last.before;
                entry = last.entry;
                place = last.place;
                by = last.by;
                among = (in_filter_from (is_of ordering) last.entry.said ordering_said).0;
              }
        ]
