-- What a correct master says once: prepares, commits, marks, reports, new views and vouchers.
use Rattle.std.proofs.Common.{◌≡◌, ℕ, ◌+◌, ◌-◌, ◌%◌, ◌<◌, ◌≤◌, Bool, true, false, cond, ◌&&◌, not, List, [], ◌∷◌, ◌++◌, Option}
use Rattle.std.proofs.Common.{length, nat_eq, nat_le, refl, sym, ap, subst, inl, inr, arith}
use Rattle.std.proofs.lemmas.Bool.{false≢true, cases_eq, ne_eqb, and_left, and_right}
use Rattle.std.specs.List.{list_any}
use Rattle.message_types.specs.declared.signed.Signed.{Signed}
use Rattle.message_types.specs.declared.updates.Update.{Update}
use Rattle.message_types.specs.declared.vouchers.Order.{Order}
use Rattle.message_types.specs.declared.ordering.Mark.{Mark}
use Rattle.message_types.specs.declared.ordering.Certificate.{Certificate}
use Rattle.message_types.specs.declared.body.Body.{Body}
use Rattle.message_types.specs.declared.body.Body.TheVariants as body
use Rattle.message_types.specs.Digests.{digest_of_rows}
use Rattle.quorum_sets.specs.Masters.{numbers_below}
use Rattle.protocol_rules.specs.declared.facts.OrderFact.{OrderFact}
use Rattle.protocol_rules.specs.Words.{numbers_from}
use Rattle.protocol_rules.specs.Group.{Group, mark_step, leader_of, is_live}
use Rattle.protocol_rules.specs.Facts.{facts_of}
use Rattle.protocol_rules.specs.Order.{prepares_said, commits_said, marks_said, prepare_due, commit_due, mark_due}
use Rattle.protocol_rules.specs.Order.{commits_due, marks_due, in_window, offered, prepared, gapless, stable, marks_for}
use Rattle.protocol_rules.specs.Order.{certificates_below}
use Rattle.protocol_rules.specs.Worth.{is_worth, worthy_prepares_due}
use Rattle.protocol_rules.specs.Views.{view, is_open, is_suspected, first_reports, reports_said, new_views_said, report_due}
use Rattle.protocol_rules.specs.Views.{new_view_due}
use Rattle.protocol_rules.specs.Master.{Heard, known_at, said_before, vouchers_said, vouchers_from, vouchers_due, executed}
use Rattle.history_rules.specs.Events.{Entry}
use Rattle.history_rules.specs.Setup.{Setup, is_correct_master}
use Rattle.history_rules.specs.Legal.{IsLegal}
use Rattle.words_by_part.specs.Kinds.{ordering, changing_views, vouching}
use Rattle.words_by_part.proofs.Sorting.{Of}
use Rattle.words_by_part.proofs.Said.{commits_kind, marks_kind, report_kind, new_view_kind}
use Rattle.words_by_part.proofs.SaidAlive.{worthy_prepares_kind}
use Rattle.progress_bounds.specs.Bounds.{SaidOnce, times, words_by}
use Rattle.progress_bounds.proofs.Counting.{one, Few, few_none, few_more, few_append, few_if, few_unless, few_else, few_and, few_elim}
use Rattle.progress_bounds.proofs.Counting.{few_one, few_other, few_flat, once_from, once_below}
use Rattle.progress_bounds.proofs.Rates.{due, by_part, by_turns, never, never_grows, few_part, few_kind}

-- the kinds that these tests pass
prepare_is : (v s : ℕ) (b : Body) → prepares_said v s b ≡ true → Of 6 b
prepare_is v s (body.Prepare b) e = refl
prepare_is v s _ e = absurd (false≢true e)

commit_is : (v s : ℕ) (b : Body) → commits_said v s b ≡ true → Of 7 b
commit_is v s (body.Commit b) e = refl
commit_is v s _ e = absurd (false≢true e)

mark_is : (s : ℕ) (b : Body) → marks_said s b ≡ true → Of 21 b
mark_is s (body.Mark b) e = refl
mark_is s _ e = absurd (false≢true e)

report_is : (v : ℕ) (b : Body) → reports_said v b ≡ true → Of 14 b
report_is v (body.Report b) e = refl
report_is v _ e = absurd (false≢true e)

new_view_is : (v : ℕ) (b : Body) → new_views_said v b ≡ true → Of 15 b
new_view_is v (body.NewView b) e = refl
new_view_is v _ e = absurd (false≢true e)

voucher_is : (c x : ℕ) (b : Body) → vouchers_said c x b ≡ true → Of 20 b
voucher_is c x (body.Voucher b) e = refl
voucher_is c x _ e = absurd (false≢true e)

-- one that was said isn't said, and those of other numbers don't count
prepare_few : (facts : List OrderFact) (said : List Body) (v s u t : ℕ) →
    (t ≡ s → Few (prepares_said v s) (one (not (list_any (prepares_said v s) said))) (prepare_due facts said u t))
    × ((t ≡ s → ⊥) → Few (prepares_said v s) 0 (prepare_due facts said u t))
prepare_few facts said v s u t = (
  λ same. elim (cases_eq u v) [
    | inl view_same ↦ subst (λ (x : ℕ). Few (prepares_said v s) (one (not (list_any (prepares_said v s) said)))
        (prepare_due facts said x t)) (sym view_same)
        (subst (λ (x : ℕ). Few (prepares_said v s) (one (not (list_any (prepares_said v s) said)))
        (prepare_due facts said v x)) (sym same) due_one)
    | inr apart ↦ few_more (prepares_said v s)
        (other (λ digest. and_left (nat_eq u v) (nat_eq t s) (ne_eqb u v apart))) (omega arith)
  ],
  λ apart. other (λ digest. and_right (nat_eq u v) (nat_eq t s) (ne_eqb t s apart)),
)
  where
    due_one : Few (prepares_said v s) (one (not (list_any (prepares_said v s) said))) (prepare_due facts said v s)
    due_one = few_unless (prepares_said v s) (list_any (prepares_said v s) said) _
        (few_elim (prepares_said v s) 1 (offered facts v s)
        (λ rows. body.Prepare record { v = v; s = s; digest = digest_of_rows rows } ∷ [])
        (λ rows e. few_one (prepares_said v s) (body.Prepare record { v = v; s = s; digest = digest_of_rows rows })))

    other : ((digest : List ℕ) → (nat_eq u v && nat_eq t s) ≡ false) → Few (prepares_said v s) 0 (prepare_due facts said u t)
    other misses = few_else (prepares_said v s) 0 (list_any (prepares_said u t) said) _
        (few_elim (prepares_said v s) 0 (offered facts u t)
        (λ rows. body.Prepare record { v = u; s = t; digest = digest_of_rows rows } ∷ [])
        (λ rows e. few_other (prepares_said v s) (body.Prepare record { v = u; s = t; digest = digest_of_rows rows })
        (misses (digest_of_rows rows))))

commit_few : (g : Group) (facts : List OrderFact) (said : List Body) (v s u t : ℕ) →
    (t ≡ s → Few (commits_said v s) (one (not (list_any (commits_said v s) said))) (commit_due g facts said u t))
    × ((t ≡ s → ⊥) → Few (commits_said v s) 0 (commit_due g facts said u t))
commit_few g facts said v s u t = (
  λ same. elim (cases_eq u v) [
    | inl view_same ↦ subst (λ (x : ℕ). Few (commits_said v s) (one (not (list_any (commits_said v s) said)))
        (commit_due g facts said x t)) (sym view_same)
        (subst (λ (x : ℕ). Few (commits_said v s) (one (not (list_any (commits_said v s) said)))
        (commit_due g facts said v x)) (sym same) due_one)
    | inr apart ↦ few_more (commits_said v s)
        (other (λ digest. and_left (nat_eq u v) (nat_eq t s) (ne_eqb u v apart))) (omega arith)
  ],
  λ apart. other (λ digest. and_right (nat_eq u v) (nat_eq t s) (ne_eqb t s apart)),
)
  where
    due_one : Few (commits_said v s) (one (not (list_any (commits_said v s) said))) (commit_due g facts said v s)
    due_one = few_unless (commits_said v s) (list_any (commits_said v s) said) _
        (few_elim (commits_said v s) 1 (prepared g facts v s)
        (λ rows. body.Commit record { v = v; s = s; digest = digest_of_rows rows } ∷ [])
        (λ rows e. few_one (commits_said v s) (body.Commit record { v = v; s = s; digest = digest_of_rows rows })))

    other : ((digest : List ℕ) → (nat_eq u v && nat_eq t s) ≡ false) → Few (commits_said v s) 0 (commit_due g facts said u t)
    other misses = few_else (commits_said v s) 0 (list_any (commits_said u t) said) _
        (few_elim (commits_said v s) 0 (prepared g facts u t)
        (λ rows. body.Commit record { v = u; s = t; digest = digest_of_rows rows } ∷ [])
        (λ rows e. few_other (commits_said v s) (body.Commit record { v = u; s = t; digest = digest_of_rows rows })
        (misses (digest_of_rows rows))))

worthy_few : (g : Group) (facts : List OrderFact) (said : List Body) (v s u : ℕ) (open_now : Bool) →
    Few (prepares_said v s) (one (not (list_any (prepares_said v s) said))) (worthy_prepares_due g facts said u open_now)
worthy_few g facts said v s u open_now =
    few_if (prepares_said v s) (one (not (list_any (prepares_said v s) said))) open_now _ (λ _.
    few_flat (prepares_said v s) (one (not (list_any (prepares_said v s) said))) s
    (λ t. cond (is_worth g facts u t) (prepare_due facts said u t) [])
    (λ t apart. few_if (prepares_said v s) 0 (is_worth g facts u t) (prepare_due facts said u t)
    (λ _. (prepare_few facts said v s u t).1 apart))
    (few_if (prepares_said v s) (one (not (list_any (prepares_said v s) said))) (is_worth g facts u s)
    (prepare_due facts said u s) (λ _. (prepare_few facts said v s u s).0 refl))
    (in_window g facts) (once_from s 1 _))

commits_few : (g : Group) (facts : List OrderFact) (said : List Body) (v s u : ℕ) →
    Few (commits_said v s) (one (not (list_any (commits_said v s) said))) (commits_due g facts said u)
commits_few g facts said v s u =
    few_flat (commits_said v s) (one (not (list_any (commits_said v s) said))) s (commit_due g facts said u)
    (λ t apart. (commit_few g facts said v s u t).1 apart) ((commit_few g facts said v s u s).0 refl)
    (in_window g facts) (once_from s 1 _)

marks_few : (g : Group) (facts : List OrderFact) (said : List Body) (s : ℕ) →
    Few (marks_said s) (one (not (list_any (marks_said s) said))) (marks_due g facts said)
marks_few g facts said s =
    few_flat (marks_said s) (one (not (list_any (marks_said s) said))) s (mark_due said)
    (λ t apart. few_if (marks_said s) 0 (nat_eq (t % mark_step) 0 && not (list_any (marks_said t) said)) _
    (λ _. few_other (marks_said s) (body.Mark record { s = t }) (ne_eqb t s apart)))
    (few_and (marks_said s) (nat_eq (s % mark_step) 0) (not (list_any (marks_said s) said)) _
    (few_one (marks_said s) (body.Mark record { s = s })))
    (numbers_from 1 (gapless g facts)) (once_from s 1 (gapless g facts))

reports_few : (g : Group) (known : List (Signed Body)) (said : List Body) (base : ℕ) (marks : List (Signed Mark))
    (certificates : List Certificate) (v : ℕ)
    → Few (reports_said v) (one (not (list_any (reports_said v) said))) (report_due g known said base marks certificates)
reports_few g known said base marks certificates v = elim (cases_eq (view g known) v) [
  | inl same ↦ subst (λ (x : ℕ). Few (reports_said x) (one (not (list_any (reports_said x) said)))
      (report_due g known said base marks certificates)) same
      (few_and (reports_said (view g known)) (nat_le 1 (view g known) && is_suspected g known (view g known - 1))
      (not (list_any (reports_said (view g known)) said)) _ (few_one (reports_said (view g known)) _))
  | inr apart ↦ few_if (reports_said v) (one (not (list_any (reports_said v) said))) _ _ (λ _.
      few_more (reports_said v) (few_other (reports_said v) _ (ne_eqb (view g known) v apart)) (omega arith))
]

new_views_few : (g : Group) (me : ℕ) (known : List (Signed Body)) (said : List Body) (v : ℕ) →
    Few (new_views_said v) (one (not (list_any (new_views_said v) said))) (new_view_due g me known said)
new_views_few g me known said v = elim (cases_eq (view g known) v) [
  | inl same ↦ subst (λ (x : ℕ). Few (new_views_said x) (one (not (list_any (new_views_said x) said)))
      (new_view_due g me known said)) same
      (few_and (new_views_said (view g known)) (nat_le 1 (view g known) && nat_eq me (leader_of g (view g known))
      && nat_le g.q (length (first_reports g known (view g known))))
      (not (list_any (new_views_said (view g known)) said)) _ (few_one (new_views_said (view g known)) _))
  | inr apart ↦ few_if (new_views_said v) (one (not (list_any (new_views_said v) said))) _ _ (λ _.
      few_more (new_views_said v) (few_other (new_views_said v) _ (ne_eqb (view g known) v apart)) (omega arith))
]

-- the orders of one client are numbered on
later_few : (said : List Body) (c x y : ℕ) (orders : List Order) → x < y →
    Few (vouchers_said c x) 0 (vouchers_from said c y orders)
later_few said c x y [] low = few_none (vouchers_said c x) 0
later_few said c x y (order ∷ rest) low = few_append (vouchers_said c x) 0 _ (vouchers_from said c (y + 1) rest)
    (few_else (vouchers_said c x) 0 (list_any (vouchers_said c y) said) _
    (few_other (vouchers_said c x) (body.Voucher record { client = c; number = y; order = order })
    (and_right (nat_eq c c) (nat_eq y x) (ne_eqb y x (λ e. absurd (omega arith))))))
    (later_few said c x (y + 1) rest (omega arith)) (omega arith)

client_few : (said : List Body) (c x y : ℕ) (orders : List Order) →
    Few (vouchers_said c x) (one (not (list_any (vouchers_said c x) said))) (vouchers_from said c y orders)
client_few said c x y [] = few_none (vouchers_said c x) (one (not (list_any (vouchers_said c x) said)))
client_few said c x y (order ∷ rest) = elim (cases_eq y x) [
  | inl same ↦ few_append (vouchers_said c x) (one (not (list_any (vouchers_said c x) said))) _
      (vouchers_from said c (y + 1) rest)
      (subst (λ (z : ℕ). Few (vouchers_said c x) (one (not (list_any (vouchers_said c x) said)))
      (cond (list_any (vouchers_said c z) said) [] (body.Voucher record { client = c; number = z; order = order } ∷ [])))
      (sym same) (few_unless (vouchers_said c x) (list_any (vouchers_said c x) said) _
      (few_one (vouchers_said c x) (body.Voucher record { client = c; number = x; order = order }))))
      (later_few said c x (y + 1) rest (omega arith)) (omega arith)
  | inr apart ↦ few_append (vouchers_said c x) (one (not (list_any (vouchers_said c x) said))) _
      (vouchers_from said c (y + 1) rest)
      (few_else (vouchers_said c x) 0 (list_any (vouchers_said c y) said) _
      (few_other (vouchers_said c x) (body.Voucher record { client = c; number = y; order = order })
      (and_right (nat_eq c c) (nat_eq y x) (ne_eqb y x apart))))
      (client_few said c x (y + 1) rest) (omega arith)
]

-- and vouchers of other clients don't count
apart_few : (said : List Body) (c x d y : ℕ) (orders : List Order) → (d ≡ c → ⊥) →
    Few (vouchers_said c x) 0 (vouchers_from said d y orders)
apart_few said c x d y [] apart = few_none (vouchers_said c x) 0
apart_few said c x d y (order ∷ rest) apart = few_append (vouchers_said c x) 0 _ (vouchers_from said d (y + 1) rest)
    (few_else (vouchers_said c x) 0 (list_any (vouchers_said d y) said) _
    (few_other (vouchers_said c x) (body.Voucher record { client = d; number = y; order = order })
    (and_left (nat_eq d c) (nat_eq y x) (ne_eqb d c apart))))
    (apart_few said c x d (y + 1) rest apart) (omega arith)

vouchers_few : (g : Group) (orders : List Update → ℕ → List Order) (known : List (Signed Body)) (said : List Body) (c x : ℕ)
    → Few (vouchers_said c x) (one (not (list_any (vouchers_said c x) said))) (vouchers_due g orders known said)
vouchers_few g orders known said c x =
    few_flat (vouchers_said c x) (one (not (list_any (vouchers_said c x) said))) c
    (λ d. vouchers_from said d 1 (orders (executed g known) d))
    (λ d apart. apart_few said c x d 1 (orders (executed g known) d) apart)
    (client_few said c x 1 (orders (executed g known) c)) (numbers_below g.clients) (once_below c g.clients)

module _ (w : Setup) (m : ℕ) (live : is_live w.group ≡ true) (correct : is_correct_master w m ≡ true)
    (history : List Entry) (legal : IsLegal w history) where
  -- said once, where no event says one that was said
  once : (such : Body → Bool) → ((before : List Heard) (took : Option (Signed Body)) (at_tick : Bool) →
      Few such (one (not (list_any such (said_before before)))) (due w m live correct before took at_tick))
      → times such (words_by w history m) ≤ 1
  once such each =
      let all : times such (words_by w history m) ≤ 1 + 0 = by_turns w m live correct such (λ t. 0) never never_grows
      (λ before took at_tick. few_more such (each before took at_tick) (omega arith)) history legal in
      omega arith

  prepares_once : (v s : ℕ) → times (prepares_said v s) (words_by w history m) ≤ 1
  prepares_once v s = once (prepares_said v s) (λ before took at_tick.
      let known = known_at before took in
      let facts = facts_of w.group known in
      let said = said_before before in
      few_part (prepares_said v s) ordering (λ b e. ap (λ k. list_any (nat_eq k) ordering) (prepare_is v s b e))
      (due w m live correct before took at_tick) _ (by_part w m live correct before took at_tick).orders_said
      (few_append (prepares_said v s) (one (not (list_any (prepares_said v s) said)))
      (worthy_prepares_due w.group facts said (view w.group known) (is_open w.group known)
      ++ commits_due w.group facts said (view w.group known)) (marks_due w.group facts said)
      (few_append (prepares_said v s) (one (not (list_any (prepares_said v s) said)))
      (worthy_prepares_due w.group facts said (view w.group known) (is_open w.group known))
      (commits_due w.group facts said (view w.group known))
      (worthy_few w.group facts said v s (view w.group known) (is_open w.group known))
      (few_kind (prepares_said v s) 6 7 (prepare_is v s) (λ e. absurd (omega arith)) _
      (commits_kind w.group facts said (view w.group known))) (omega arith))
      (few_kind (prepares_said v s) 6 21 (prepare_is v s) (λ e. absurd (omega arith)) _ (marks_kind w.group facts said)) (omega arith)))

  commits_once : (v s : ℕ) → times (commits_said v s) (words_by w history m) ≤ 1
  commits_once v s = once (commits_said v s) (λ before took at_tick.
      let known = known_at before took in
      let facts = facts_of w.group known in
      let said = said_before before in
      few_part (commits_said v s) ordering (λ b e. ap (λ k. list_any (nat_eq k) ordering) (commit_is v s b e))
      (due w m live correct before took at_tick) _ (by_part w m live correct before took at_tick).orders_said
      (few_append (commits_said v s) (one (not (list_any (commits_said v s) said)))
      (worthy_prepares_due w.group facts said (view w.group known) (is_open w.group known)
      ++ commits_due w.group facts said (view w.group known)) (marks_due w.group facts said)
      (few_append (commits_said v s) (one (not (list_any (commits_said v s) said)))
      (worthy_prepares_due w.group facts said (view w.group known) (is_open w.group known))
      (commits_due w.group facts said (view w.group known))
      (few_kind (commits_said v s) 7 6 (commit_is v s) (λ e. absurd (omega arith)) _
      (worthy_prepares_kind w.group facts said (view w.group known) (is_open w.group known)))
      (commits_few w.group facts said v s (view w.group known)) (omega arith))
      (few_kind (commits_said v s) 7 21 (commit_is v s) (λ e. absurd (omega arith)) _ (marks_kind w.group facts said)) (omega arith)))

  marks_once : (s : ℕ) → times (marks_said s) (words_by w history m) ≤ 1
  marks_once s = once (marks_said s) (λ before took at_tick.
      let known = known_at before took in
      let facts = facts_of w.group known in
      let said = said_before before in
      few_part (marks_said s) ordering (λ b e. ap (λ k. list_any (nat_eq k) ordering) (mark_is s b e))
      (due w m live correct before took at_tick) _ (by_part w m live correct before took at_tick).orders_said
      (few_append (marks_said s) (one (not (list_any (marks_said s) said)))
      (worthy_prepares_due w.group facts said (view w.group known) (is_open w.group known)
      ++ commits_due w.group facts said (view w.group known)) (marks_due w.group facts said)
      (few_append (marks_said s) 0
      (worthy_prepares_due w.group facts said (view w.group known) (is_open w.group known))
      (commits_due w.group facts said (view w.group known))
      (few_kind (marks_said s) 21 6 (mark_is s) (λ e. absurd (omega arith)) _
      (worthy_prepares_kind w.group facts said (view w.group known) (is_open w.group known)))
      (few_kind (marks_said s) 21 7 (mark_is s) (λ e. absurd (omega arith)) _
      (commits_kind w.group facts said (view w.group known))) (omega arith))
      (marks_few w.group facts said s) (omega arith)))

  reports_once : (v : ℕ) → times (reports_said v) (words_by w history m) ≤ 1
  reports_once v = once (reports_said v) (λ before took at_tick.
      let known = known_at before took in
      let facts = facts_of w.group known in
      let said = said_before before in
      few_part (reports_said v) changing_views (λ b e. ap (λ k. list_any (nat_eq k) changing_views) (report_is v b e))
      (due w m live correct before took at_tick) _ (by_part w m live correct before took at_tick).views
      (few_append (reports_said v) (one (not (list_any (reports_said v) said))) _ (new_view_due w.group m known said)
      (reports_few w.group known said (stable w.group facts) (marks_for w.group facts (stable w.group facts))
      (certificates_below w.group facts (view w.group known)) v)
      (few_kind (reports_said v) 14 15 (report_is v) (λ e. absurd (omega arith)) _ (new_view_kind w.group m known said))
      (omega arith)))

  new_views_once : (v : ℕ) → times (new_views_said v) (words_by w history m) ≤ 1
  new_views_once v = once (new_views_said v) (λ before took at_tick.
      let known = known_at before took in
      let facts = facts_of w.group known in
      let said = said_before before in
      few_part (new_views_said v) changing_views (λ b e. ap (λ k. list_any (nat_eq k) changing_views) (new_view_is v b e))
      (due w m live correct before took at_tick) _ (by_part w m live correct before took at_tick).views
      (few_append (new_views_said v) (one (not (list_any (new_views_said v) said))) _ (new_view_due w.group m known said)
      (few_kind (new_views_said v) 15 14 (new_view_is v) (λ e. absurd (omega arith)) _
      (report_kind w.group known said (stable w.group facts) (marks_for w.group facts (stable w.group facts))
      (certificates_below w.group facts (view w.group known))))
      (new_views_few w.group m known said v) (omega arith)))

  vouchers_once : (c x : ℕ) → times (vouchers_said c x) (words_by w history m) ≤ 1
  vouchers_once c x = once (vouchers_said c x) (λ before took at_tick.
      few_part (vouchers_said c x) vouching (λ b e. ap (λ k. list_any (nat_eq k) vouching) (voucher_is c x b e))
      (due w m live correct before took at_tick) _ (by_part w m live correct before took at_tick).vouchers
      (vouchers_few w.group w.orders (known_at before took) (said_before before) c x))

pub said_once : SaidOnce
said_once w history m bound = record {
  prepares = prepares_once w m bound.live bound.correct history bound.legal;
  commits = commits_once w m bound.live bound.correct history bound.legal;
  marks = marks_once w m bound.live bound.correct history bound.legal;
  reports = reports_once w m bound.live bound.correct history bound.legal;
  new_views = new_views_once w m bound.live bound.correct history bound.legal;
  vouchers = vouchers_once w m bound.live bound.correct history bound.legal;
}
