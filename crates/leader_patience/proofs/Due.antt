-- Which votes are due: those against views that weren't voted against, and of the others at most two, so that none below
-- them is looked at. Once they are said, each view below the end was voted against.
use Rattle.std.proofs.Common.{◌≡◌, ℕ, zero, suc, ◌+◌, ◌-◌, ◌*◌, ◌/◌, ◌%◌, ◌^◌, ◌<◌, ◌≤◌, Bool, true, false, cond, ◌&&◌, ◌||◌}
use Rattle.std.proofs.Common.{not, List, [], ◌∷◌, ◌++◌, Option, Some, None, map, filter, reverse, min, max, nat_eq, nat_lt}
use Rattle.std.proofs.Common.{refl, sym, ◌∙◌, ap, inl, inr, ◌⊎◌, arith, add-one}
use Rattle.std.specs.List.{list_any, list_all, filter_map, cons_option, slice_index_or}
use Rattle.std.specs.Option.{option_to_list}
use Rattle.std.specs.Prelude.{slice_index}
use Rattle.std.proofs.lemmas.Bool.{cases_lt, lt-ltb, le-ltb, eqb-true, eqb-false, ne_eqb, or_from}
use Rattle.std.proofs.lemmas.List.{append-nil}
use Rattle.std.proofs.lemmas.List.Folds.{list_any-append, list_all-append}
use Rattle.std.proofs.Math.Nat.{pow-le-pow_right, mod-eq_of_lt}
use Rattle.quorum_sets.specs.declared.sizes.Sizes.{Sizes}
use Rattle.quorum_sets.specs.Masters.{numbers_below}
use Rattle.quorum_sets.proofs.Numbered.{map_below, filter_map_start, filter_map_more, below_none_at, below_one_more}
use Rattle.message_types.specs.declared.signed.Signed.{Signed}
use Rattle.message_types.specs.declared.body.Body.{Body}
use Rattle.message_types.specs.declared.body.Body.TheVariants as body
use Rattle.protocol_rules.specs.Words.{in_order, numbers_from}
use Rattle.protocol_rules.specs.Group.{Group, most_view}
use Rattle.protocol_rules.specs.Measures.{suspects_said}
use Rattle.protocol_rules.specs.Patience.{patience, voted_to, votes_to, is_beat, is_vote_due, votes_due}
use Rattle.protocol_rules.proofs.Numbers.{numbers_from-suc, numbers_from-none}
use Rattle.suspect_leader.specs.MeasureState.{is_word_in_place}
use Rattle.leader_patience.specs.PatienceState.{PatienceState, IsPatienceOf, votes_to_kept, is_due_kept, vote_at}

-- what the numbers below one give, listed behind other bodies
pub listed_more : (f : ℕ → Option Body) (before now : List Body) (m : ℕ) (o : Option Body) → o ≡ f m →
    before ≡ filter_map f (numbers_below m) → now ≡ before ++ option_to_list o → now ≡ filter_map f (numbers_below (m + 1))
listed_more f before now m o is was next =
    next ∙ ap (λ l. l ++ option_to_list o) was ∙ ap (λ x. filter_map f (numbers_below m) ++ option_to_list x) is
    ∙ sym (filter_map_more f m)

none_below : (f : ℕ → Option Body) (n : ℕ) → ((m : ℕ) → m < n → f m ≡ None) → filter_map f (numbers_below n) ≡ []
none_below f zero none = filter_map_start f
none_below f (suc n) none =
    ap (λ m. filter_map f (numbers_below m)) (sym (add-one n)) ∙ filter_map_more f n
    ∙ ap (λ o. filter_map f (numbers_below n) ++ option_to_list o) (none n (omega arith))
    ∙ append-nil (filter_map f (numbers_below n)) ∙ none_below f n (λ m lt. none m (omega (arith, lt)))

-- below the view before the present one no vote is said again
not_again : (v now own w : ℕ) (is_impatient : Bool) → w < own → w < v - 1 →
    (not (nat_lt w own) || is_impatient && is_beat now && (nat_eq w v || nat_eq (w + 1) v)) ≡ false
not_again v now own w is_impatient old less =
    ap (λ b. not b || is_impatient && is_beat now && (nat_eq w v || nat_eq (w + 1) v)) (lt-ltb w own old)
    ∙ ap (λ b. is_impatient && is_beat now && b) (or_from (nat_eq w v) (nat_eq (w + 1) v)
    (ne_eqb w v (λ e. omega (arith, less, e))) (ne_eqb (w + 1) v (λ e. omega (arith, less, e))))
    ∙ nothing (is_impatient && is_beat now)
  where
    nothing : (b : Bool) → (b && false) ≡ false
    nothing true = refl
    nothing false = refl

pub none_due : (kept : PatienceState) (v now start : ℕ) (is_impatient : Bool) → start ≤ kept.own → start ≤ v - 1 →
    [] ≡ filter_map (vote_at kept v now is_impatient) (numbers_below start)
none_due kept v now start is_impatient old less = sym (none_below (vote_at kept v now is_impatient) start (λ w lt.
    ap (λ b. cond b (Some (body.Suspect record { v = w })) None)
    (not_again v now kept.own w is_impatient (omega (arith, old, lt)) (omega (arith, less, lt)))))

-- which views the votes listed are against
any_listed : (p : ℕ → Bool) (v n : ℕ) →
    list_any (suspects_said v) (filter_map (λ w. cond (p w) (Some (body.Suspect record { v = w })) None) (numbers_below n))
    ≡ (nat_lt v n && p v)
any_listed p v zero =
    ap (list_any (suspects_said v)) (filter_map_start (λ w. cond (p w) (Some (body.Suspect record { v = w })) None))
    ∙ ap (λ b. b && p v) (sym (le-ltb v 0 (omega arith)))
any_listed p v (suc n) =
    ap (list_any (suspects_said v)) (ap (λ m. filter_map (λ w. cond (p w) (Some (body.Suspect record { v = w })) None)
    (numbers_below m)) (sym (add-one n)) ∙ filter_map_more (λ w. cond (p w) (Some (body.Suspect record { v = w })) None) n)
    ∙ list_any-append (suspects_said v)
    (filter_map (λ w. cond (p w) (Some (body.Suspect record { v = w })) None) (numbers_below n))
    (option_to_list (cond (p n) (Some (body.Suspect record { v = n })) None))
    ∙ ap (λ b. b || list_any (suspects_said v) (option_to_list (cond (p n) (Some (body.Suspect record { v = n })) None)))
    (any_listed p v n) ∙ ap (λ b. nat_lt v n && p v || b) (one (p n)) ∙ by (cases_lt v n)
  where
    one : (b : Bool) → list_any (suspects_said v) (option_to_list (cond b (Some (body.Suspect record { v = n })) None))
        ≡ (b && nat_eq n v)
    one true = or_false (nat_eq n v)
      where
        or_false : (b : Bool) → (b || false) ≡ b
        or_false true = refl
        or_false false = refl
    one false = refl

    by : (v < n) ⊎ (n ≤ v) → (nat_lt v n && p v || (p n && nat_eq n v)) ≡ (nat_lt v (suc n) && p v)
    by (inl lt) =
        ap (λ b. b && p v || (p n && nat_eq n v)) (lt-ltb v n lt)
        ∙ ap (λ b. p v || (p n && b)) (ne_eqb n v (λ e. omega (arith, lt, e))) ∙ nothing (p v) (p n)
        ∙ ap (λ b. b && p v) (sym (lt-ltb v (suc n) (omega (arith, lt))))
      where
        nothing : (a b : Bool) → (a || (b && false)) ≡ a
        nothing true b = refl
        nothing false true = refl
        nothing false false = refl
    by (inr le) = ap (λ b. b && p v || (p n && nat_eq n v)) (le-ltb v n le) ∙ at (nat_eq n v) refl
      where
        at : (b : Bool) → nat_eq n v ≡ b → (p n && b) ≡ (nat_lt v (suc n) && p v)
        at true e =
            let same : n ≡ v = eqb-true n v e in
            and_true (p n) ∙ ap p same ∙ ap (λ b. b && p v) (sym (lt-ltb v (suc n) (omega (arith, same))))
          where
            and_true : (b : Bool) → (b && true) ≡ b
            and_true true = refl
            and_true false = refl
        at false e =
            let other : n ≡ v → ⊥ = eqb-false n v e in
            and_false (p n) ∙ ap (λ b. b && p v) (sym (le-ltb v (suc n) (omega (arith, le, other))))
          where
            and_false : (b : Bool) → (b && false) ≡ false
            and_false true = refl
            and_false false = refl

-- once they are said, all views below the end were voted against
pub all_said : (g : Group) (kept : PatienceState) (known : List (Signed Body)) (said bodies : List Body)
    (v now end own : ℕ) (is_impatient : Bool) → own ≡ max kept.own end →
    bodies ≡ filter_map (vote_at kept v now is_impatient) (numbers_below end) →
    IsPatienceOf g kept known said → IsPatienceOf g record kept { own = own } known (said ++ bodies)
all_said g kept known said bodies v now end own is_impatient further listed is = record {
  masters = is.masters;
  intruded = is.intruded;
  away = is.away;
  voted = is.voted;
  own = λ w.
      list_any-append (suspects_said w) said bodies
      ∙ ap (λ b. b || list_any (suspects_said w) bodies) (is.own w)
      ∙ ap (λ l. nat_lt w kept.own || list_any (suspects_said w) l) listed
      ∙ ap (λ b. nat_lt w kept.own || b) (any_listed (is_due_kept kept v now is_impatient) w end)
      ∙ below w (is_impatient && is_beat now && (nat_eq w v || nat_eq (w + 1) v)) (cases_lt w kept.own)
      ∙ ap (nat_lt w) (sym further);
}
  where
    below : (w : ℕ) (again : Bool) → (w < kept.own) ⊎ (kept.own ≤ w) →
        (nat_lt w kept.own || (nat_lt w end && (not (nat_lt w kept.own) || again))) ≡ nat_lt w (max kept.own end)
    below w again (inl lt) =
        ap (λ b. b || (nat_lt w end && (not b || again))) (lt-ltb w kept.own lt)
        ∙ sym (lt-ltb w (max kept.own end) (omega (arith, lt)))
    below w again (inr le) =
        ap (λ b. b || (nat_lt w end && (not b || again))) (le-ltb w kept.own le) ∙ and_true (nat_lt w end)
        ∙ by (cases_lt w end)
      where
        and_true : (b : Bool) → (b && true) ≡ b
        and_true true = refl
        and_true false = refl

        by : (w < end) ⊎ (end ≤ w) → nat_lt w end ≡ nat_lt w (max kept.own end)
        by (inl lt) = lt-ltb w end lt ∙ sym (lt-ltb w (max kept.own end) (omega (arith, lt)))
        by (inr high) = le-ltb w end high ∙ sym (le-ltb w (max kept.own end) (omega (arith, le, high)))

-- the votes listed are those due
from_below : (n : ℕ) → numbers_below n ≡ numbers_from 0 n
from_below zero = below_none_at ∙ sym (numbers_from-none 0)
from_below (suc n) =
    ap numbers_below (sym (add-one n)) ∙ below_one_more n ∙ ap (λ l. l ++ n ∷ []) (from_below n)
    ∙ sym (numbers_from-suc 0 n ∙ ap (λ x. numbers_from 0 n ++ x ∷ []) (omega arith))

those_due : (p q : ℕ → Bool) (f : ℕ → Body) → ((w : ℕ) → p w ≡ q w) → (views : List ℕ) →
    filter_map (λ w. cond (p w) (Some (f w)) None) views ≡ map f (filter q views)
those_due p q f same [] = refl
those_due p q f same (w ∷ rest) =
    ap (λ b. cons_option (cond b (Some (f w)) None) (filter_map (λ w. cond (p w) (Some (f w)) None) rest)) (same w)
    ∙ at (q w) (those_due p q f same rest)
  where
    at : (b : Bool) → filter_map (λ w. cond (p w) (Some (f w)) None) rest ≡ map f (filter q rest) →
        cons_option (cond b (Some (f w)) None) (filter_map (λ w. cond (p w) (Some (f w)) None) rest)
        ≡ map f (cond b (w ∷ filter q rest) (filter q rest))
    at true more = ap (λ l. f w ∷ l) more
    at false more = more

votes_to_is : (g : Group) (kept : PatienceState) (known : List (Signed Body)) (said : List Body) (v : ℕ)
    (is_impatient : Bool) → IsPatienceOf g kept known said →
    votes_to_kept kept v is_impatient ≡ votes_to g known v is_impatient
votes_to_is g kept known said v is_impatient is =
    ap (λ n. ends (map (λ j. slice_index_or kept.voted j 0) (numbers_below n)) kept.group.f kept.group.k) is.masters
    ∙ ap (λ l. ends l kept.group.f kept.group.k)
    (map_below (λ j. slice_index_or kept.voted j 0) (voted_to known) g.n is.voted)
    ∙ ap (λ f. ends (map (voted_to known) (numbers_below g.n)) f kept.group.k) is.intruded
    ∙ ap (λ k. ends (map (voted_to known) (numbers_below g.n)) g.f k) is.away
  where
    ends : List ℕ → ℕ → ℕ → ℕ
    ends l f k = max (slice_index (reverse (in_order l)) (f + k)) (cond is_impatient (v + 1) v)

pub patience_is : (g : Group) (kept : PatienceState) (known : List (Signed Body)) (said : List Body) (v n rounds now : ℕ) →
    n ≡ kept.group.n → rounds ≡ min ((v - now / 1024) / n) 16 → IsPatienceOf g kept known said →
    32 * 2 ^ rounds % 18446744073709551616 ≡ patience g v now
patience_is g kept known said v n rounds now same is_min is =
    fits rounds (omega (arith, is_min)) ∙ ap (λ r. 32 * 2 ^ r) is_min
    ∙ ap (λ n. 32 * 2 ^ min ((v - now / 1024) / n) 16) (same ∙ is.masters)
  where
    fits : (r : ℕ) → r ≤ 16 → 32 * 2 ^ r % 18446744073709551616 ≡ 32 * 2 ^ r
    fits r few =
        let top : 2 ^ r ≤ 2 ^ 16 = pow-le-pow_right {n = 2} (omega arith) {i = r} {j = 16} few in
        let small : 32 * 2 ^ r < 18446744073709551616 = omega (arith, top) in
        mod-eq_of_lt small

last : (e : ℕ) → min e 255 ≡ min e most_view
unfolding most_view
last e = refl

pub votes_are : (g : Group) (kept : PatienceState) (known : List (Signed Body)) (said bodies : List Body)
    (v now waiting end : ℕ) (at_tick is_impatient : Bool) → is_impatient ≡ (at_tick && nat_lt (patience g v now) waiting)
    → end ≡ min (votes_to_kept kept v is_impatient) 255
    → bodies ≡ filter_map (vote_at kept v now is_impatient) (numbers_below end)
    → IsPatienceOf g kept known said → bodies ≡ votes_due g known said v waiting now at_tick
votes_are g kept known said bodies v now waiting end at_tick is_impatient of_wait of_end listed is =
    listed ∙ ap (λ e. filter_map (vote_at kept v now is_impatient) (numbers_below e))
    (of_end ∙ last (votes_to_kept kept v is_impatient)
    ∙ ap (λ e. min e most_view) (votes_to_is g kept known said v is_impatient is))
    ∙ ap (filter_map (vote_at kept v now is_impatient)) (from_below (min (votes_to g known v is_impatient) most_view))
    ∙ those_due (is_due_kept kept v now is_impatient) (is_vote_due said now v is_impatient)
    (λ w. body.Suspect record { v = w })
    (λ w. ap (λ b. not b || is_impatient && is_beat now && (nat_eq w v || nat_eq (w + 1) v)) (sym (is.own w)))
    (numbers_from 0 (min (votes_to g known v is_impatient) most_view))
    ∙ ap due of_wait
  where
    due : Bool → List Body
    due b = map (λ w. body.Suspect record { v = w })
        (filter (is_vote_due said now v b) (numbers_from 0 (min (votes_to g known v b) most_view)))

-- all of them are in their place
listed_fit : (g : Group) (me : ℕ) (p : ℕ → Bool) → nat_lt me g.n ≡ true → (n : ℕ) → n ≤ 255 →
    list_all (is_word_in_place g me)
    (filter_map (λ w. cond (p w) (Some (body.Suspect record { v = w })) None) (numbers_below n)) ≡ true
unfolding most_view
listed_fit g me p own zero few =
    ap (list_all (is_word_in_place g me))
    (filter_map_start (λ w. cond (p w) (Some (body.Suspect record { v = w })) None))
listed_fit g me p own (suc n) few =
    ap (list_all (is_word_in_place g me))
    (ap (λ m. filter_map (λ w. cond (p w) (Some (body.Suspect record { v = w })) None) (numbers_below m)) (sym (add-one n))
    ∙ filter_map_more (λ w. cond (p w) (Some (body.Suspect record { v = w })) None) n)
    ∙ list_all-append (is_word_in_place g me)
    (filter_map (λ w. cond (p w) (Some (body.Suspect record { v = w })) None) (numbers_below n))
    (option_to_list (cond (p n) (Some (body.Suspect record { v = n })) None))
    ∙ ap (λ b. b && list_all (is_word_in_place g me)
    (option_to_list (cond (p n) (Some (body.Suspect record { v = n })) None)))
    (listed_fit g me p own n (omega (arith, few))) ∙ one (p n)
  where
    one : (b : Bool) → list_all (is_word_in_place g me)
        (option_to_list (cond b (Some (body.Suspect record { v = n })) None)) ≡ true
    one true = ap (λ b. (b && nat_lt n 255) && true) own ∙ ap (λ b. b && true) (lt-ltb n 255 (omega (arith, few)))
    one false = refl

pub votes_fit : (g : Group) (me : ℕ) (kept : PatienceState) (bodies : List Body) (v now end : ℕ) (is_impatient : Bool) →
    me < g.n → end ≤ 255 → bodies ≡ filter_map (vote_at kept v now is_impatient) (numbers_below end)
    → list_all (is_word_in_place g me) bodies ≡ true
votes_fit g me kept bodies v now end is_impatient within few listed =
    ap (list_all (is_word_in_place g me)) listed
    ∙ listed_fit g me (is_due_kept kept v now is_impatient) (lt-ltb me g.n within) end few

-- there are enough masters above whom f + k can stand
pub masters_above : (sizes : Sizes) → sizes.f + sizes.k < sizes.n
masters_above sizes = few sizes.f sizes.k sizes.n sizes.all
  where
    few : (f k n : ℕ) → n ≡ 3 * f + 2 * k + 1 → f + k < n
    few f k n e = omega arith
