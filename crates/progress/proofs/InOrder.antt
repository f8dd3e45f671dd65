-- Of one master the requests that rows make eligible stand in rising order; and of updates that are kept in turn there is
-- one of each number up to how many there are.
use Rattle.std.proofs.Common.{◌≡◌, ℕ, ◌+◌, ◌-◌, ◌<◌, ◌≤◌, zero, suc, Bool, true, false, cond, List, [], ◌∷◌, ◌++◌, Option, Some, None}
use Rattle.std.proofs.Common.{filter, map, max, length, nat_eq, refl, sym, ◌∙◌, ap, subst, inl, inr, ◌⊎◌, arith, eqb-true}
use Rattle.std.proofs.Common.{append_assoc, append-nil, length-append}
use Rattle.std.proofs.lemmas.Bool.{cases_lt, eq-eqb, eqb-false}
use Rattle.std.proofs.lemmas.List.Elements.{filter-append}
use Rattle.std.specs.List.{filter_map, flat_map, cons_option}
use Rattle.plain_lists.specs.Lists.{IsIn, here, there, Begins}
use Rattle.plain_lists.proofs.Members.{none_in, in_cons_cases, in_left, in_right, in_first, in_map, in_map_from}
use Rattle.plain_lists.proofs.Members.{in_flat_map, none_some}
use Rattle.quorum_sets.specs.Masters.{numbers_below}
use Rattle.message_types.specs.declared.updates.Update.{Update}
use Rattle.protocol_rules.specs.Words.{numbers_from}
use Rattle.protocol_rules.specs.Group.{Group}
use Rattle.protocol_rules.specs.Matrix.{eligible, reach}
use Rattle.protocol_rules.specs.Execution.{Request, requests_between, newly_eligible, eligible_requests, certified_run, first_missing}
use Rattle.protocol_rules.specs.Execution.{updates_of, kept_after}
use Rattle.protocol_rules.proofs.Kept.{kept_after-append}
use Rattle.protocol_rules.proofs.Numbers.{from_in}
use Rattle.agreement.proofs.Places.{heads_same, tails_same}
use Rattle.agreement.proofs.CommittedStays.{in_below}
use Rattle.agreement.proofs.ExecutedInTurn.{InTurn, kept_more}
use Rattle.progress.proofs.Introducing.{updates_grow}

nil_cons : {X : Type 0} {x : X} {xs : List X} → [] ≡ x ∷ xs → ⊥
nil_cons e = cc

pub nil_place : {X : Type 0} (xs : List X) (x : X) (ys : List X) → [] ≡ xs ++ x ∷ ys → ⊥
nil_place [] x ys e = nil_cons e
nil_place (y ∷ xs) x ys e = nil_cons e

-- a place in two lists joined: in the first, or behind it
pub append_place : {X : Type 0} (xs ys first rest : List X) (x : X) → xs ++ ys ≡ first ++ x ∷ rest
    → ((more : List X) × (xs ≡ first ++ x ∷ more)) ⊎ ((more : List X) × (first ≡ xs ++ more) × (ys ≡ more ++ x ∷ rest))
append_place [] ys first rest x e = inr (first, refl, e)
append_place {X} (y ∷ xs) ys [] rest x e = inl (xs, ap (λ (z : X). z ∷ xs) (heads_same e))
append_place {X} (y ∷ xs) ys (z ∷ first) rest x e = elim (append_place xs ys first rest x (tails_same e)) [
  | inl found ↦ inl (found.0, ap (λ (v : X). v ∷ xs) (heads_same e) ∙ ap (λ (vs : List X). z ∷ vs) found.1)
  | inr behind ↦ inr (
    behind.0,
    ap (λ (v : X). v ∷ first) (sym (heads_same e)) ∙ ap (λ (vs : List X). y ∷ vs) behind.1,
    behind.2,
  )
]

-- a member has a place
pub placed : {X : Type 0} {x : X} {xs : List X} → IsIn x xs → (first : List X) × (rest : List X) × (xs ≡ first ++ x ∷ rest)
placed (here rest) = ([], rest, refl)
placed {X} (there y rest h) = let found = placed h in
    (y ∷ found.0, found.1, ap (λ (zs : List X). y ∷ zs) found.2)

abbrev pub request : ℕ → ℕ → Request
request j k = record { j = j; k = k }

between_lower : (j start count : ℕ) (first rest : List Request) (k i : ℕ) →
    map (λ k. record { j = j; k = k }) (numbers_from start count) ≡ first ++ request j k ∷ rest → start ≤ i → i < k →
    IsIn (request j i) first
unfolding numbers_from
between_lower j start zero first rest k i e low less = absurd (nil_place first (request j k) rest e)
between_lower j start (suc count) [] rest k i e low less =
    let same : start ≡ k = ap (λ (r : Request). r.k) (heads_same e) in absurd (omega arith)
between_lower j start (suc count) (x ∷ first) rest k i e low less = elim (cases_lt start i) [
  | inl above ↦ there x first (between_lower j (suc start) count first rest k i (tails_same e) above less)
  | inr le ↦
      let same : start ≡ i = omega arith in
      subst (λ (r : Request). IsIn (request j i) (r ∷ first)) (ap (request j) (sym same) ∙ heads_same e) (here first)
]

newly_lower : (g : Group) (before : List (List (List ℕ))) (rows : List (List ℕ)) (js : List ℕ) (first rest : List Request)
    (j k i : ℕ) → flat_map (λ j. requests_between j (reach g before j) (eligible g rows j)) js ≡ first ++ request j k ∷ rest
    → reach g before j < i → i < k → IsIn (request j i) first
newly_lower g before rows [] first rest j k i e above less = absurd (nil_place first (request j k) rest e)
newly_lower g before rows (x ∷ js) first rest j k i e above less =
    elim (append_place (requests_between x (reach g before x) (eligible g rows x))
    (flat_map (λ j. requests_between j (reach g before j) (eligible g rows j)) js) first rest (request j k) e) [
      | inl found ↦
          let among = in_map_from (λ (k : ℕ). request x k) (numbers_from (reach g before x + 1) (eligible g rows x - reach g before x))
          (subst (λ (rs : List Request). IsIn (request j k) rs) (sym found.1) (in_first first found.0)) in
          let same : j ≡ x = ap (λ (r : Request). r.j) among.2 in
          between_lower j (reach g before j + 1) (eligible g rows j - reach g before j) first found.0 k i
          (subst (λ (y : ℕ). requests_between y (reach g before y) (eligible g rows y) ≡ first ++ request j k ∷ found.0)
          (sym same) found.1) (omega arith) less
      | inr behind ↦ subst (λ (rs : List Request). IsIn (request j i) rs) (sym behind.1)
          (in_right (requests_between x (reach g before x) (eligible g rows x))
          (newly_lower g before rows js behind.0 rest j k i behind.2 above less))
    ]

reach-append : (g : Group) (xs ys : List (List (List ℕ))) (j : ℕ) → reach g (xs ++ ys) j ≡ max (reach g xs j) (reach g ys j)
reach-append g [] ys j = omega arith
reach-append g (x ∷ xs) ys j =
    let deeper : reach g (xs ++ ys) j ≡ max (reach g xs j) (reach g ys j) = reach-append g xs ys j in omega arith

newly_there : (g : Group) (before : List (List (List ℕ))) (rows : List (List ℕ)) (j k : ℕ) → j < g.n → reach g before j < k →
    k ≤ eligible g rows j → IsIn (request j k) (newly_eligible g before rows)
newly_there g before rows j k low above reached =
    in_flat_map (λ j. requests_between j (reach g before j) (eligible g rows j)) (in_below g.n j low)
    (in_map (λ (k : ℕ). request j k) (from_in (reach g before j + 1) (eligible g rows j - reach g before j) k (omega arith)
    (omega arith)))

-- what a longer list of rows reaches, and a shorter one doesn't, is among the requests between
pub eligible_there : (g : Group) (before runs : List (List (List ℕ))) (j k : ℕ) → j < g.n → reach g before j < k →
    k ≤ reach g runs j → IsIn (request j k) (eligible_requests g before runs)
unfolding eligible_requests
eligible_there g before [] j k low above reached = absurd (omega arith)
eligible_there g before (rows ∷ runs) j k low above reached = elim (cases_lt (eligible g rows j) k) [
  | inr now ↦ in_left (eligible_requests g (before ++ rows ∷ []) runs) (newly_there g before rows j k low above now)
  | inl later ↦
      let all : reach g (before ++ rows ∷ []) j ≡ max (reach g before j) (reach g (rows ∷ []) j) =
      reach-append g before (rows ∷ []) j in
      in_right (newly_eligible g before rows) (eligible_there g (before ++ rows ∷ []) runs j k low (omega arith) (omega arith))
]

-- Before a master's request stand its lower ones that weren't eligible before.
pub eligible_lower : (g : Group) (before runs : List (List (List ℕ))) (first rest : List Request) (j k i : ℕ) → j < g.n →
    eligible_requests g before runs ≡ first ++ request j k ∷ rest → reach g before j < i → i < k → IsIn (request j i) first
unfolding eligible_requests
eligible_lower g before [] first rest j k i low e above less = absurd (nil_place first (request j k) rest e)
eligible_lower g before (rows ∷ runs) first rest j k i low e above less =
    elim (append_place (newly_eligible g before rows) (eligible_requests g (before ++ rows ∷ []) runs) first rest (request j k) e) [
      | inl found ↦ newly_lower g before rows (numbers_below g.n) first found.0 j k i found.1 above less
      | inr behind ↦ subst (λ (rs : List Request). IsIn (request j i) rs) (sym behind.1) (elim (cases_lt (eligible g rows j) i) [
        | inr now ↦ in_left behind.0 (newly_there g before rows j i low above now)
        | inl later ↦
            let all : reach g (before ++ rows ∷ []) j ≡ max (reach g before j) (reach g (rows ∷ []) j) =
            reach-append g before (rows ∷ []) j in
            in_right (newly_eligible g before rows) (eligible_lower g (before ++ rows ∷ []) runs behind.0 rest j k i low behind.2
            (omega arith) less)
      ])
    ]

-- where all requests are certified the run is of all their updates
pub run_whole : (d : Request → Option Update) (xs : List Request) → first_missing d xs ≡ None → certified_run d xs ≡ filter_map d xs
unfolding certified_run first_missing
run_whole d [] e = refl
run_whole d (r ∷ xs) e = by (d r) e (run_whole d xs)
  where
    by : (o : Option Update) → ◌≡◌ {A = Option Request} (elim o [ None ↦ Some r | Some u ↦ first_missing d xs ]) None
        → (first_missing d xs ≡ None → certified_run d xs ≡ filter_map d xs)
        → ◌≡◌ {A = List Update} (elim o [ None ↦ [] | Some u ↦ u ∷ certified_run d xs ]) (cons_option o (filter_map d xs))
    by None e later = absurd (none_some (sym e))
    by (Some u) e later = ap (λ (us : List Update). u ∷ us) (later e)

-- a run of what is certified alike begins it, as far as it goes
pub run_begins : (c d : Request → Option Update) → ((r : Request) (u v : Update) → c r ≡ Some u → d r ≡ Some v → u ≡ v)
    → (xs : List Request) → first_missing d xs ≡ None → Begins (certified_run c xs) (filter_map d xs)
unfolding certified_run first_missing
run_begins c d same [] e = record { rest = []; same = refl }
run_begins c d same (r ∷ xs) e = by (c r) (d r) refl refl e (run_begins c d same xs)
  where
    by : (o p : Option Update) → c r ≡ o → d r ≡ p
        → ◌≡◌ {A = Option Request} (elim p [ None ↦ Some r | Some u ↦ first_missing d xs ]) None
        → (first_missing d xs ≡ None → Begins (certified_run c xs) (filter_map d xs))
        → Begins {X = Update} (elim o [ None ↦ [] | Some u ↦ u ∷ certified_run c xs ]) (cons_option p (filter_map d xs))
    by None p is other e later = record { rest = cons_option p (filter_map d xs); same = refl }
    by (Some u) None is other e later = absurd (none_some (sym e))
    by (Some u) (Some v) is other e later =
        let rest : Begins (certified_run c xs) (filter_map d xs) = later e in
        record {
          rest = rest.rest;
          same = ap (λ (x : Update). x ∷ filter_map d xs) (sym (same r u v is other))
              ∙ ap (λ (us : List Update). u ∷ us) rest.same;
        }

-- it stops at what isn't certified
pub run_stops : (c : Request → Option Update) (xs ys : List Request) (r : Request) → c r ≡ None →
    certified_run c (xs ++ r ∷ ys) ≡ certified_run c xs
unfolding certified_run
run_stops c [] ys r none = ap (λ (o : Option Update). elim o as (λ _. List Update)
    [ None ↦ [] | Some u ↦ u ∷ certified_run c ys ]) none
run_stops c (x ∷ xs) ys r none = by (c x) (run_stops c xs ys r none)
  where
    by : (o : Option Update) → certified_run c (xs ++ r ∷ ys) ≡ certified_run c xs
        → ◌≡◌ {A = List Update} (elim o [ None ↦ [] | Some u ↦ u ∷ certified_run c (xs ++ r ∷ ys) ])
        (elim o [ None ↦ [] | Some u ↦ u ∷ certified_run c xs ])
    by None later = refl
    by (Some u) later = ap (λ (us : List Update). u ∷ us) later

pub missing_left : (d : Request → Option Update) (xs ys : List Request) → first_missing d (xs ++ ys) ≡ None → first_missing d xs ≡ None
unfolding first_missing
missing_left d [] ys e = refl
missing_left d (r ∷ xs) ys e = by (d r) e (missing_left d xs ys)
  where
    by : (o : Option Update) → ◌≡◌ {A = Option Request} (elim o [ None ↦ Some r | Some u ↦ first_missing d (xs ++ ys) ]) None
        → (first_missing d (xs ++ ys) ≡ None → first_missing d xs ≡ None)
        → ◌≡◌ {A = Option Request} (elim o [ None ↦ Some r | Some u ↦ first_missing d xs ]) None
    by None e later = e
    by (Some u) e later = later e

pub certified_at : (d : Request → Option Update) (xs : List Request) (r : Request) → first_missing d xs ≡ None → IsIn r xs →
    (u : Update) × (d r ≡ Some u)
unfolding first_missing
certified_at d [] r e h = absurd (none_in h)
certified_at d (x ∷ xs) r e h = by (d x) refl e (certified_at d xs r)
  where
    by : (o : Option Update) → d x ≡ o → ◌≡◌ {A = Option Request} (elim o [ None ↦ Some x | Some u ↦ first_missing d xs ]) None
        → (first_missing d xs ≡ None → IsIn r xs → (u : Update) × (d r ≡ Some u)) → (u : Update) × (d r ≡ Some u)
    by None is e later = absurd (none_some (sym e))
    by (Some u) is e later = elim (in_cons_cases h) [
      | inl same ↦ (u, ap d same ∙ is)
      | inr k ↦ later e k
    ]

-- one update more
count_snoc : (c : ℕ) (us : List Update) (u : Update) → updates_of c (us ++ u ∷ []) ≡ updates_of c us
    + length (filter (λ (x : Update). nat_eq x.client c) (u ∷ []))
count_snoc c us u = ap length (filter-append (λ (x : Update). nat_eq x.client c) us (u ∷ []))
    ∙ length-append (filter (λ (x : Update). nat_eq x.client c) us) (filter (λ (x : Update). nat_eq x.client c) (u ∷ []))

count_own : (c : ℕ) (u : Update) (b : Bool) → length {A = Update} (cond b (u ∷ []) []) ≤ 1
count_own c u true = omega arith
count_own c u false = omega arith

count_one : (c : ℕ) (u : Update) → u.client ≡ c → length (filter (λ (x : Update). nat_eq x.client c) (u ∷ [])) ≡ 1
count_one c u e = ap (λ (b : Bool). length {A = Update} (cond b (u ∷ []) [])) (eq-eqb u.client c e)

-- what is kept of more is no less
pub kept_count_more : (c : ℕ) (xs ys : List Update) → Begins xs ys → updates_of c (kept_after [] xs) ≤ updates_of c (kept_after [] ys)
kept_count_more c xs ys b = updates_grow c (kept_after [] xs) (kept_after [] ys)
    (subst (λ (zs : List Update). Begins (kept_after [] xs) (kept_after [] zs)) (sym b.same)
    (subst (λ (zs : List Update). Begins (kept_after [] xs) zs) (sym (kept_after-append [] xs b.rest))
    (kept_more (kept_after [] xs) b.rest)))

-- After an update in turn, or one that comes too late, as many of its client's are kept as its number says.
pub kept_then : (us : List Update) (u : Update) → u.t ≤ updates_of u.client (kept_after [] us) + 1 →
    u.t ≤ updates_of u.client (kept_after [] (us ++ u ∷ []))
unfolding kept_after
kept_then us u low = subst (λ (zs : List Update). u.t ≤ updates_of u.client zs) (sym (kept_after-append [] us (u ∷ [])))
    (by (nat_eq u.t (updates_of u.client (kept_after [] us) + 1)) refl)
  where
    by : (b : Bool) → nat_eq u.t (updates_of u.client (kept_after [] us) + 1) ≡ b
        → u.t ≤ updates_of u.client (cond b (kept_after [] us ++ u ∷ []) (kept_after [] us))
    by true e =
        let is : u.t ≡ updates_of u.client (kept_after [] us) + 1 = eqb-true u.t (updates_of u.client (kept_after [] us) + 1) e in
        let all : updates_of u.client (kept_after [] us ++ u ∷ []) ≡ updates_of u.client (kept_after [] us)
        + length (filter (λ (x : Update). nat_eq x.client u.client) (u ∷ [])) = count_snoc u.client (kept_after [] us) u in
        let one : length (filter (λ (x : Update). nat_eq x.client u.client) (u ∷ [])) ≡ 1 = count_one u.client u refl in
        omega (arith, is, all, one)
    by false e =
        let apart : u.t ≡ updates_of u.client (kept_after [] us) + 1 → ⊥ = eqb-false u.t
        (updates_of u.client (kept_after [] us) + 1) e in
        elim (cases_lt (updates_of u.client (kept_after [] us)) u.t) [
          | inl above ↦ absurd (apart (omega (arith, low, above)))
          | inr le ↦ le
        ]

-- Of updates in turn there is one of each number up to their count.
pub one_of_each : (c t : ℕ) (kept : List Update) → InTurn kept → 1 ≤ t → t ≤ updates_of c kept →
    (u : Update) × IsIn u kept × (u.client ≡ c) × (u.t ≡ t)
one_of_each c t kept turn one many = go [] kept refl (omega arith) many
  where
    go : (before rest : List Update) → kept ≡ before ++ rest → updates_of c before < t → t ≤ updates_of c (before ++ rest)
        → (u : Update) × IsIn u kept × (u.client ≡ c) × (u.t ≡ t)
    go before [] e few many =
        let same : updates_of c (before ++ []) ≡ updates_of c before = ap (updates_of c) (append-nil before) in
        absurd (omega (arith, same, few, many))
    go before (u ∷ rest) e few many =
        let all : updates_of c (before ++ u ∷ []) ≡ updates_of c before
        + length (filter (λ (x : Update). nat_eq x.client c) (u ∷ [])) = count_snoc c before u in
        let most : length (filter (λ (x : Update). nat_eq x.client c) (u ∷ [])) ≤ 1 = count_own c u (nat_eq u.client c) in
        elim (cases_lt (updates_of c (before ++ u ∷ [])) t) [
          | inl still ↦ go (before ++ u ∷ []) rest (e ∙ sym (append_assoc before (u ∷ []) rest)) still
              (subst (λ (us : List Update). t ≤ updates_of c us) (sym (append_assoc before (u ∷ []) rest)) many)
          | inr now ↦
              let own : u.client ≡ c = own_client (nat_eq u.client c) refl (omega (arith, all, few, now)) in
              let number : u.t ≡ updates_of u.client before + 1 = turn before rest u e in
              let count : updates_of u.client before ≡ updates_of c before = ap (λ (x : ℕ). updates_of x before) own in (
                u,
                subst (λ (us : List Update). IsIn u us) (sym e) (in_first before rest),
                own,
                omega (arith, number, count, all, most, few, now),
              )
        ]
      where
        own_client : (b : Bool) → nat_eq u.client c ≡ b → 1 ≤ length {A = Update} (cond b (u ∷ []) []) → u.client ≡ c
        own_client true e h = eqb-true u.client c e
        own_client false e h = absurd (omega (arith, h))
