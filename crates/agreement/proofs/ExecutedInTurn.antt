-- What is executed: certified updates, each client's in turn; and executions of what agrees agree.
use Rattle.std.proofs.Common.{◌≡◌, ℕ, ◌+◌, ◌≤◌, zero, suc, Bool, true, false, cond, List, [], ◌∷◌, ◌++◌, Option, Some}
use Rattle.std.proofs.Common.{None, length, filter, nat_eq, refl, sym, ◌∙◌, ap, subst, inl, inr, ◌⊎◌, arith}
use Rattle.std.proofs.Common.{append_assoc, append-nil, eqb-true, length-append}
use Rattle.std.proofs.lemmas.Bool.{eq-eqb}
use Rattle.std.proofs.lemmas.List.Elements.{filter-append}
use Rattle.plain_lists.specs.Lists.{IsIn, here, there, Begins}
use Rattle.plain_lists.proofs.Members.{none_in, in_cons_cases, in_cases, some_same, none_some}
use Rattle.message_types.specs.declared.updates.Update.{Update}
use Rattle.protocol_rules.specs.Words.{run_from}
use Rattle.protocol_rules.specs.Group.{Group}
use Rattle.protocol_rules.specs.Execution.{Request, newly_eligible, eligible_requests, certified_run, updates_of}
use Rattle.protocol_rules.specs.Execution.{kept_after, executed_of}
use Rattle.protocol_rules.proofs.Kept.{kept_after-append}

-- what is kept is of what there was
kept_in : (kept more : List Update) (u : Update) → IsIn u (kept_after kept more) → IsIn u kept ⊎ IsIn u more
unfolding kept_after
kept_in kept [] u h = inl h
kept_in kept (v ∷ more) u h = by_turn (nat_eq v.t (updates_of v.client kept + 1))
    (λ k. kept_in (kept ++ v ∷ []) more u k) (λ k. kept_in kept more u k) h
  where
    by_turn : (b : Bool) → (IsIn u (kept_after (kept ++ v ∷ []) more) → IsIn u (kept ++ v ∷ []) ⊎ IsIn u more) →
        (IsIn u (kept_after kept more) → IsIn u kept ⊎ IsIn u more)
        → IsIn u (cond b (kept_after (kept ++ v ∷ []) more) (kept_after kept more)) → IsIn u kept ⊎ IsIn u (v ∷ more)
    by_turn true one other h = elim (one h) [
      | inl k ↦ elim (in_cases kept k) [
        | inl earlier ↦ inl earlier
        | inr last ↦ elim (in_cons_cases last) [
          | inl e ↦ inr (subst (λ (z : Update). IsIn z (v ∷ more)) (sym e) (here more))
          | inr none ↦ absurd (none_in none)
        ]
      ]
      | inr k ↦ inr (there v more k)
    ]
    by_turn false one other h = elim (other h) [ inl k ↦ inl k | inr k ↦ inr (there v more k) ]

run_in : (certified : Request → Option Update) (requests : List Request) (u : Update) →
    IsIn u (certified_run certified requests) → (r : Request) × (certified r ≡ Some u)
unfolding certified_run
run_in certified [] u h = absurd (none_in h)
run_in certified (r ∷ rest) u h = by_first (certified r) refl (λ k. run_in certified rest u k) h
  where
    by_first : (o : Option Update) → certified r ≡ o →
        (IsIn u (certified_run certified rest) → (r : Request) × (certified r ≡ Some u))
        → IsIn u (elim o [ None ↦ [] | Some v ↦ v ∷ certified_run certified rest ]) →
        (r : Request) × (certified r ≡ Some u)
    by_first None e later h = absurd (none_in h)
    by_first (Some v) e later h =
        elim (in_cons_cases h) [ inl same ↦ (r, e ∙ ap (λ z. Some z) (sym same)) | inr k ↦ later k ]

-- what is executed is certified
pub executed_in : (g : Group) (certified : Request → Option Update) (runs : List (List (List ℕ))) (u : Update) →
    IsIn u (executed_of g certified runs) → (r : Request) × (certified r ≡ Some u)
unfolding executed_of
executed_in g certified runs u h = elim (kept_in [] (certified_run certified (eligible_requests g [] runs)) u h) [
  | inl none ↦ absurd (none_in none)
  | inr k ↦ run_in certified (eligible_requests g [] runs) u k
]

-- each update's number is one more than its client's updates before it
abbrev pub InTurn : List Update → Type 0
InTurn kept = (before after : List Update) (u : Update) → kept ≡ before ++ u ∷ after →
    u.t ≡ updates_of u.client before + 1

heads_same : {x y : Update} {xs ys : List Update} → x ∷ xs ≡ y ∷ ys → x ≡ y
heads_same e = cc

tails_same : {x y : Update} {xs ys : List Update} → x ∷ xs ≡ y ∷ ys → xs ≡ ys
tails_same e = cc

nil_cons : {x : Update} {xs : List Update} → [] ≡ x ∷ xs → ⊥
nil_cons e = cc

-- a place in a list with one more: one of the list, or the last
last_or_before : (kept : List Update) (v : Update) (before after : List Update) (u : Update) →
    kept ++ v ∷ [] ≡ before ++ u ∷ after
    → ((rest : List Update) × (kept ≡ before ++ u ∷ rest)) ⊎ ((before ≡ kept) × (u ≡ v))
last_or_before [] v [] after u e = inr (refl, sym (heads_same e))
last_or_before [] v (y ∷ before) after u e = absurd (some_behind before (tails_same e))
  where
    some_behind : (ys : List Update) → [] ≡ ys ++ u ∷ after → ⊥
    some_behind [] e = nil_cons e
    some_behind (z ∷ zs) e = nil_cons e
last_or_before (x ∷ kept) v [] after u e = inl (kept, ap (λ (z : Update). z ∷ kept) (heads_same e))
last_or_before (x ∷ kept) v (y ∷ before) after u e = elim (last_or_before kept v before after u (tails_same e)) [
  | inl found ↦ inl (found.0, ap (λ (z : Update). z ∷ kept) (heads_same e) ∙ ap (λ (zs : List Update). y ∷ zs) found.1)
  | inr last ↦ inr (
    ap (λ (z : Update). z ∷ before) (sym (heads_same e)) ∙ ap (λ (zs : List Update). x ∷ zs) last.0,
    last.1,
  )
]

in_turn_more : (kept : List Update) (v : Update) → InTurn kept → v.t ≡ updates_of v.client kept + 1 →
    InTurn (kept ++ v ∷ [])
in_turn_more kept v so_far next before after u e = elim (last_or_before kept v before after u e) [
  | inl found ↦ so_far before found.0 u found.1
  | inr last ↦ subst (λ (z : Update). z.t ≡ updates_of z.client before + 1) (sym last.1)
      (subst (λ (zs : List Update). v.t ≡ updates_of v.client zs + 1) (sym last.0) next)
]

pub kept_in_turn : (kept more : List Update) → InTurn kept → InTurn (kept_after kept more)
unfolding kept_after
kept_in_turn kept [] h = h
kept_in_turn kept (v ∷ more) h = by_turn (nat_eq v.t (updates_of v.client kept + 1)) refl
    (λ k. kept_in_turn (kept ++ v ∷ []) more k) (kept_in_turn kept more h)
  where
    by_turn : (b : Bool) → nat_eq v.t (updates_of v.client kept + 1) ≡ b →
        (InTurn (kept ++ v ∷ []) → InTurn (kept_after (kept ++ v ∷ []) more)) → InTurn (kept_after kept more)
        → InTurn (cond b (kept_after (kept ++ v ∷ []) more) (kept_after kept more))
    by_turn true e one other = one (in_turn_more kept v h (eqb-true v.t (updates_of v.client kept + 1) e))
    by_turn false e one other = other

pub none_in_turn : InTurn []
none_in_turn [] after u e = absurd (nil_cons e)
none_in_turn (y ∷ before) after u e = absurd (nil_cons e)

updates_of-more : (c : ℕ) (first : List Update) (u : Update) (between : List Update) → u.client ≡ c →
    updates_of c first + 1 ≤ updates_of c (first ++ u ∷ between)
updates_of-more c first u between e =
    let split : updates_of c (first ++ u ∷ between) ≡ updates_of c first + updates_of c (u ∷ between) =
    ap length (filter-append (λ x. nat_eq x.client c) first (u ∷ between))
    ∙ length-append (filter (λ x. nat_eq x.client c) first) (filter (λ x. nat_eq x.client c) (u ∷ between)) in
    let one : updates_of c (u ∷ between) ≡ suc (updates_of c between) =
    ap (λ b. length {A = Update}
    (cond b (u ∷ filter (λ x. nat_eq x.client c) between) (filter (λ x. nat_eq x.client c) between)))
    (eq-eqb u.client c e) in
    omega arith

pub none_twice : (g : Group) (certified : Request → Option Update) (runs : List (List (List ℕ)))
    (first between last : List Update) (u v : Update)
    → executed_of g certified runs ≡ (first ++ u ∷ between) ++ v ∷ last → u.client ≡ v.client → u.t ≡ v.t → ⊥
unfolding executed_of
none_twice g certified runs first between last u v e same_client same_t =
    let turn = kept_in_turn [] (certified_run certified (eligible_requests g [] runs)) none_in_turn in
    let second : v.t ≡ updates_of v.client (first ++ u ∷ between) + 1 = turn (first ++ u ∷ between) last v e in
    let one : u.t ≡ updates_of u.client first + 1 =
    turn first (between ++ v ∷ last) u (e ∙ append_assoc first (u ∷ between) (v ∷ last)) in
    let more : updates_of v.client first + 1 ≤ updates_of v.client (first ++ u ∷ between) =
    updates_of-more v.client first u between same_client in
    let alike : updates_of u.client first ≡ updates_of v.client first = ap (λ c. updates_of c first) same_client in
    omega arith

-- one of two lists begins the other
abbrev pub Agree : {X : Type 0} → List X → List X → Type 0
Agree xs ys = Begins xs ys ⊎ Begins ys xs

agree_none : {X : Type 0} (xs : List X) → Agree [] xs
agree_none xs = inl record { rest = xs; same = refl }

agree_none_right : {X : Type 0} (xs : List X) → Agree xs []
agree_none_right xs = inr record { rest = xs; same = refl }

agree_cons : {X : Type 0} (x y : X) (xs ys : List X) → x ≡ y → Agree xs ys → Agree (x ∷ xs) (y ∷ ys)
agree_cons {X} x y xs ys e (inl b) =
    inl record { rest = b.rest; same = ap (λ (z : X). z ∷ ys) (sym e) ∙ ap (λ (zs : List X). x ∷ zs) b.same }
agree_cons {X} x y xs ys e (inr b) =
    inr record { rest = b.rest; same = ap (λ (z : X). z ∷ xs) e ∙ ap (λ (zs : List X). y ∷ zs) b.same }

-- runs of functions that agree agree
pub runs_agree : {X : Type 0} (f h : ℕ → Option X) → ((n : ℕ) (x y : X) → f n ≡ Some x → h n ≡ Some y → x ≡ y) →
    (start most : ℕ) → Agree (run_from f start most) (run_from h start most)
unfolding run_from
runs_agree f h same start zero = agree_none []
runs_agree {X} f h same start (suc most) = by_first (f start) (h start) refl refl (runs_agree f h same (suc start) most)
  where
    by_first : (o p : Option X) → f start ≡ o → h start ≡ p →
        Agree (run_from f (suc start) most) (run_from h (suc start) most)
        → Agree {X = X} (elim o [ None ↦ [] | Some x ↦ x ∷ run_from f (suc start) most ])
        (elim p [ None ↦ [] | Some x ↦ x ∷ run_from h (suc start) most ])
    by_first None p e d deeper = agree_none _
    by_first (Some x) None e d deeper = agree_none_right _
    by_first (Some x) (Some y) e d deeper = agree_cons x y _ _ (same start x y e d) deeper

pub eligible-append : (g : Group) (before xs ys : List (List (List ℕ))) →
    eligible_requests g before (xs ++ ys) ≡ eligible_requests g before xs ++ eligible_requests g (before ++ xs) ys
unfolding eligible_requests
eligible-append g before [] ys = ap (λ (b : List (List (List ℕ))). eligible_requests g b ys) (sym (append-nil before))
eligible-append g before (x ∷ xs) ys =
    ap (λ (rs : List Request). newly_eligible g before x ++ rs) (eligible-append g (before ++ x ∷ []) xs ys
    ∙ ap (λ (b : List (List (List ℕ))). eligible_requests g (before ++ x ∷ []) xs ++ eligible_requests g b ys)
    (append_assoc before (x ∷ []) xs))
    ∙ sym (append_assoc (newly_eligible g before x) (eligible_requests g (before ++ x ∷ []) xs)
    (eligible_requests g (before ++ x ∷ xs) ys))

eligible_begins : (g : Group) {xs ys : List (List (List ℕ))} → Begins xs ys →
    Begins (eligible_requests g [] xs) (eligible_requests g [] ys)
eligible_begins g {xs} b =
    record {
      rest = eligible_requests g xs b.rest;
      same =
          ap (λ (zs : List (List (List ℕ))). eligible_requests g [] zs) b.same ∙ eligible-append g [] xs b.rest;
    }

eligible_agree : (g : Group) (xs ys : List (List (List ℕ))) → Agree xs ys →
    Agree (eligible_requests g [] xs) (eligible_requests g [] ys)
eligible_agree g xs ys (inl b) = inl (eligible_begins g b)
eligible_agree g xs ys (inr b) = inr (eligible_begins g b)

-- a longer list's run agrees with a shorter one's
certified_begins : (c d : Request → Option Update) →
    ((r : Request) (u v : Update) → c r ≡ Some u → d r ≡ Some v → u ≡ v) → (xs rest : List Request) →
    Agree (certified_run c xs) (certified_run d (xs ++ rest))
unfolding certified_run
certified_begins c d same [] rest = agree_none _
certified_begins c d same (r ∷ xs) rest = by_first (c r) (d r) refl refl (certified_begins c d same xs rest)
  where
    by_first : (o p : Option Update) → c r ≡ o → d r ≡ p → Agree (certified_run c xs) (certified_run d (xs ++ rest))
        → Agree {X = Update} (elim o [ None ↦ [] | Some x ↦ x ∷ certified_run c xs ])
        (elim p [ None ↦ [] | Some x ↦ x ∷ certified_run d (xs ++ rest) ])
    by_first None p e f deeper = agree_none _
    by_first (Some x) None e f deeper = agree_none_right _
    by_first (Some x) (Some y) e f deeper = agree_cons x y _ _ (same r x y e f) deeper

agree_back : {X : Type 0} (xs ys : List X) → Agree xs ys → Agree ys xs
agree_back xs ys (inl b) = inr b
agree_back xs ys (inr b) = inl b

certified_agree : (c d : Request → Option Update) →
    ((r : Request) (u v : Update) → c r ≡ Some u → d r ≡ Some v → u ≡ v) → (xs ys : List Request) → Agree xs ys →
    Agree (certified_run c xs) (certified_run d ys)
certified_agree c d same xs ys (inl b) =
    subst (λ (zs : List Request). Agree (certified_run c xs) (certified_run d zs)) (sym b.same)
    (certified_begins c d same xs b.rest)
certified_agree c d same xs ys (inr b) =
    subst (λ (zs : List Request). Agree (certified_run c zs) (certified_run d ys)) (sym b.same)
    (agree_back (certified_run d ys) (certified_run c (ys ++ b.rest))
    (certified_begins d c (λ r u v p q. sym (same r v u q p)) ys b.rest))

-- what is kept stays
pub kept_more : (kept more : List Update) → Begins kept (kept_after kept more)
unfolding kept_after
kept_more kept [] = record { rest = []; same = sym (append-nil kept) }
kept_more kept (v ∷ more) = by_turn (nat_eq v.t (updates_of v.client kept + 1)) (kept_more (kept ++ v ∷ []) more)
    (kept_more kept more)
  where
    by_turn : (b : Bool) → Begins (kept ++ v ∷ []) (kept_after (kept ++ v ∷ []) more) →
        Begins kept (kept_after kept more) →
        Begins kept (cond b (kept_after (kept ++ v ∷ []) more) (kept_after kept more))
    by_turn true one other = record { rest = v ∷ one.rest; same = one.same ∙ append_assoc kept (v ∷ []) one.rest }
    by_turn false one other = other

kept_begins : (xs ys : List Update) → Begins xs ys → Begins (kept_after [] xs) (kept_after [] ys)
kept_begins xs ys b = subst (λ (zs : List Update). Begins (kept_after [] xs) (kept_after [] zs)) (sym b.same)
    (subst (λ (zs : List Update). Begins (kept_after [] xs) zs) (sym (kept_after-append [] xs b.rest))
    (kept_more (kept_after [] xs) b.rest))

kept_agree : (xs ys : List Update) → Agree xs ys → Agree (kept_after [] xs) (kept_after [] ys)
kept_agree xs ys (inl b) = inl (kept_begins xs ys b)
kept_agree xs ys (inr b) = inr (kept_begins ys xs b)

-- executions of orders and certificates that agree agree
pub executed_agree : (g : Group) (c d : Request → Option Update) →
    ((r : Request) (u v : Update) → c r ≡ Some u → d r ≡ Some v → u ≡ v) → (xs ys : List (List (List ℕ))) → Agree xs ys
    → Agree (executed_of g c xs) (executed_of g d ys)
unfolding executed_of
executed_agree g c d same xs ys agree = kept_agree (certified_run c (eligible_requests g [] xs))
    (certified_run d (eligible_requests g [] ys))
    (certified_agree c d same (eligible_requests g [] xs) (eligible_requests g [] ys) (eligible_agree g xs ys agree))

-- where more is ordered and certified alike, what is executed only grows
begins_none : {X : Type 0} (xs : List X) → Begins [] xs
begins_none xs = record { rest = xs; same = refl }

begins_cons : {X : Type 0} (x y : X) (xs ys : List X) → x ≡ y → Begins xs ys → Begins (x ∷ xs) (y ∷ ys)
begins_cons {X} x y xs ys e b =
    record { rest = b.rest; same = ap (λ (z : X). z ∷ ys) (sym e) ∙ ap (λ (zs : List X). x ∷ zs) b.same }

pub runs_grow : {X : Type 0} (f h : ℕ → Option X) → ((n : ℕ) (x : X) → f n ≡ Some x → h n ≡ Some x) →
    (start most : ℕ) → Begins (run_from f start most) (run_from h start most)
unfolding run_from
runs_grow f h same start zero = begins_none []
runs_grow {X} f h same start (suc most) = by_first (f start) refl (runs_grow f h same (suc start) most)
  where
    found : (x : X) (p : Option X) → p ≡ Some x → Begins (run_from f (suc start) most) (run_from h (suc start) most)
        → Begins {X = X} (x ∷ run_from f (suc start) most)
        (elim p [ None ↦ [] | Some y ↦ y ∷ run_from h (suc start) most ])
    found x None e deeper = absurd (none_some e)
    found x (Some y) e deeper = begins_cons x y _ _ (some_same (sym e)) deeper

    by_first : (o : Option X) → f start ≡ o → Begins (run_from f (suc start) most) (run_from h (suc start) most)
        → Begins {X = X} (elim o [ None ↦ [] | Some x ↦ x ∷ run_from f (suc start) most ])
        (elim (h start) [ None ↦ [] | Some y ↦ y ∷ run_from h (suc start) most ])
    by_first None e deeper = begins_none _
    by_first (Some x) e deeper = found x (h start) (same start x e) deeper

certified_grow : (c d : Request → Option Update) → ((r : Request) (u : Update) → c r ≡ Some u → d r ≡ Some u) →
    (xs rest : List Request) → Begins (certified_run c xs) (certified_run d (xs ++ rest))
unfolding certified_run
certified_grow c d same [] rest = begins_none _
certified_grow c d same (r ∷ xs) rest = by_first (c r) refl (certified_grow c d same xs rest)
  where
    found : (u : Update) (p : Option Update) → p ≡ Some u → Begins (certified_run c xs) (certified_run d (xs ++ rest))
        → Begins {X = Update} (u ∷ certified_run c xs)
        (elim p [ None ↦ [] | Some y ↦ y ∷ certified_run d (xs ++ rest) ])
    found u None e deeper = absurd (none_some e)
    found u (Some y) e deeper = begins_cons u y _ _ (some_same (sym e)) deeper

    by_first : (o : Option Update) → c r ≡ o → Begins (certified_run c xs) (certified_run d (xs ++ rest))
        → Begins {X = Update} (elim o [ None ↦ [] | Some x ↦ x ∷ certified_run c xs ])
        (elim (d r) [ None ↦ [] | Some y ↦ y ∷ certified_run d (xs ++ rest) ])
    by_first None e deeper = begins_none _
    by_first (Some u) e deeper = found u (d r) (same r u e) deeper

pub executed_grow : (g : Group) (c d : Request → Option Update) →
    ((r : Request) (u : Update) → c r ≡ Some u → d r ≡ Some u) → (xs ys : List (List (List ℕ))) → Begins xs ys
    → Begins (executed_of g c xs) (executed_of g d ys)
unfolding executed_of
executed_grow g c d same xs ys b =
    let requests : Begins (eligible_requests g [] xs) (eligible_requests g [] ys) = eligible_begins g b in
    kept_begins (certified_run c (eligible_requests g [] xs)) (certified_run d (eligible_requests g [] ys))
    (subst (λ (zs : List Request). Begins (certified_run c (eligible_requests g [] xs)) (certified_run d zs))
    (sym requests.same) (certified_grow c d same (eligible_requests g [] xs) requests.rest))
