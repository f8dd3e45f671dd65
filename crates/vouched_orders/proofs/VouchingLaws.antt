-- One vote more: whom it adds to the supporters, which number it settles, and which orders it makes done.
use Rattle.std.proofs.Common.{◌≡◌, ℕ, zero, suc, ◌+◌, ◌-◌, ◌<◌, ◌≤◌, Bool, true, false, ◌||◌, ◌&&◌, List, [], ◌∷◌}
use Rattle.std.proofs.Common.{◌++◌, Option, Some, None, length, nat_eq, nat_lt, slice_get, IsSome, is_some, refl, sym}
use Rattle.std.proofs.Common.{◌∙◌, ap, subst, inl, inr, ◌⊎◌, arith, append_assoc, if◌then◌else◌}
use Rattle.std.specs.List.{list_any}
use Rattle.std.proofs.lemmas.List.Folds.{list_any-append}
use Rattle.std.proofs.lemmas.Bool.{cases_eq, cases_lt, lt-ltb, le-ltb, and_right, ne_eqb, eq-eqb, false≢true}
use Rattle.std.proofs.Math.Bool.{or-false}
use Rattle.quorum_sets.specs.Masters.{has_master, voters, with_master}
use Rattle.quorum_sets.proofs.MastersLemmas.{voters_same, voters_none, voters-suc, has_master-voters}
use Rattle.quorum_sets.proofs.MastersLemmas.{has_master-voters_below}
use Rattle.message_types.specs.declared.vouchers.Order.{Order}
use Rattle.message_types.specs.declared.vouchers.Order.TheVariants as order
use Rattle.message_types.specs.Texts.{notice_number}
use Rattle.vouched_orders.specs.declared.vote.Vote.{Vote}
use Rattle.vouched_orders.specs.Vouching.{same_order, is_for, supporters, or_else, settled_by, chosen_after, chosen}
use Rattle.vouched_orders.specs.Vouching.{greatest_number, run_from, done}
use Rattle.vouched_orders.specs.Tally.{with_signer}

pub append-[] : {X : Type 0} (xs : List X) → xs ++ [] ≡ xs
append-[] [] = refl
append-[] (x ∷ xs) = ap (λ ys. x ∷ ys) (append-[] xs)

pub same_order-refl : (o : Order) → same_order o o ≡ true
same_order-refl (order.Write p r) = ap (λ b. b && nat_eq r r) (eq-eqb p p refl) ∙ eq-eqb r r refl
same_order-refl (order.Notice n) =
    ap (λ b. b && nat_eq n.t n.t && nat_eq n.number n.number)
    (eq-eqb (notice_number n.what) (notice_number n.what) refl)
    ∙ ap (λ b. b && nat_eq n.number n.number) (eq-eqb n.t n.t refl) ∙ eq-eqb n.number n.number refl

-- where a test holds for no number from n on, its voters are those below n
voters_on : (n more : ℕ) (test : ℕ → Bool) → ((x : ℕ) → n ≤ x → test x ≡ false) → voters test (n + more) ≡ voters test n
voters_on n zero test none = ap (voters test) (omega arith)
voters_on n (suc more) test none =
    ap (voters test) (omega arith) ∙ voters-suc test (n + more)
    ∙ ap (λ b. voters test (n + more) ++ (if b then (n + more) ∷ [] else [])) (none (n + more) (omega arith))
    ∙ append-[] (voters test (n + more)) ∙ voters_on n more test none

voters_upto : (n most : ℕ) (test : ℕ → Bool) → n ≤ most → ((x : ℕ) → n ≤ x → test x ≡ false) →
    voters test most ≡ voters test n
voters_upto n most test le none = ap (voters test) (omega arith) ∙ voters_on n (most - n) test none

-- the masters of n for whom a test holds, with one number more
voters-with_signer : (n : ℕ) (test : ℕ → Bool) (signer : ℕ) → n ≤ 14
    → voters (λ m. nat_eq signer m || test m) n ≡ with_signer n (voters test n) signer
voters-with_signer n test signer few = by (cases_lt signer n)
  where
    turned : (m k : ℕ) → nat_eq m k ≡ nat_eq k m
    turned m k = by_eq (cases_eq m k)
      where
        by_eq : (m ≡ k) ⊎ (m ≡ k → ⊥) → nat_eq m k ≡ nat_eq k m
        by_eq (inl e) = eq-eqb m k e ∙ sym (eq-eqb k m (sym e))
        by_eq (inr ne) = ne_eqb m k ne ∙ sym (ne_eqb k m (λ e. ne (sym e)))

    none_above : (x : ℕ) → n ≤ x → signer < n → (nat_eq x signer || has_master (voters test n) x) ≡ false
    none_above x le lt =
        ap (λ b. b || has_master (voters test n) x) (ne_eqb x signer (omega arith))
        ∙ has_master-voters test n x ∙ ap (λ b. test x && b) (le-ltb x n le) ∙ and_right (test x) false refl

    by : (signer < n) ⊎ (n ≤ signer) → voters (λ m. nat_eq signer m || test m) n ≡ with_signer n (voters test n) signer
    by (inl lt) =
        sym (voters_upto n 14 (λ x. nat_eq x signer || has_master (voters test n) x) few (λ x le. none_above x le lt)
        ∙ voters_same (λ x. nat_eq x signer || has_master (voters test n) x)
        (λ m. nat_eq signer m || test m) n (λ x below.
        ap (λ b. b || has_master (voters test n) x) (turned x signer) ∙ ap (λ b. nat_eq signer x || b)
        (has_master-voters_below test n x below)))
        ∙ sym (ap (λ b. if b then with_master (voters test n) signer else voters test n) (lt-ltb signer n lt))
    by (inr le) =
        voters_same (λ m. nat_eq signer m || test m) test n
        (λ m below. ap (λ b. b || test m) (ne_eqb signer m (omega arith)))
        ∙ sym (ap (λ b. if b then with_master (voters test n) signer else voters test n) (le-ltb signer n le))

-- the supporters with one vote more
pub supporters-push : (n : ℕ) (votes : List Vote) (vote : Vote) (x : ℕ) (o : Order) → n ≤ 14
    → supporters n (votes ++ vote ∷ []) x o ≡ (if is_for x o vote then with_signer n (supporters n votes x o)
    vote.signer else supporters n votes x o)
unfolding supporters
supporters-push n votes vote x o few = by (is_for x o vote) refl
  where
    was : ℕ → Bool
    was m = list_any (λ v. nat_eq v.signer m && is_for x o v) votes

    split : (m : ℕ) → list_any (λ v. nat_eq v.signer m && is_for x o v)
        (votes ++ vote ∷ []) ≡ (list_any (λ v. nat_eq v.signer m && is_for x o v) votes
        || (nat_eq vote.signer m && is_for x o vote))
    split m =
        list_any-append (λ v. nat_eq v.signer m && is_for x o v) votes (vote ∷ [])
        ∙ ap (λ b. list_any (λ v. nat_eq v.signer m && is_for x o v) votes || b)
        (or-false (nat_eq vote.signer m && is_for x o vote))

    signer_first : (a b : Bool) → (a || (b && true)) ≡ (b || a)
    signer_first true true = refl
    signer_first true false = refl
    signer_first false true = refl
    signer_first false false = refl

    no_more : (a b : Bool) → (a || (b && false)) ≡ a
    no_more true b = refl
    no_more false true = refl
    no_more false false = refl

    by : (b : Bool) → is_for x o vote ≡ b
        → voters (λ m. list_any (λ v. nat_eq v.signer m && is_for x o v) (votes ++ vote ∷ [])) n
        ≡ (if b then with_signer n (voters (λ m. list_any (λ v. nat_eq v.signer m && is_for x o v) votes) n)
        vote.signer else voters (λ m. list_any (λ v. nat_eq v.signer m && is_for x o v) votes) n)
    by true e =
        voters_same _ _ n (λ m lt.
        split m ∙ ap (λ b. list_any (λ v. nat_eq v.signer m && is_for x o v) votes || (nat_eq vote.signer m && b)) e
        ∙ signer_first (list_any (λ v. nat_eq v.signer m && is_for x o v) votes) (nat_eq vote.signer m))
        ∙ voters-with_signer n (λ m. list_any (λ v. nat_eq v.signer m && is_for x o v) votes) vote.signer few
    by false e = voters_same _ _ n (λ m lt.
        split m ∙ ap (λ b. list_any (λ v. nat_eq v.signer m && is_for x o v) votes || (nat_eq vote.signer m && b)) e
        ∙ no_more (list_any (λ v. nat_eq v.signer m && is_for x o v) votes) (nat_eq vote.signer m))

or_else-none : (o : Option Order) → or_else o None ≡ o
or_else-none None = refl
or_else-none (Some o) = refl

or_else-assoc : (a b c : Option Order) → or_else a (or_else b c) ≡ or_else (or_else a b) c
or_else-assoc None b c = refl
or_else-assoc (Some o) b c = refl

chosen_after-push : (n f : ℕ) (seen rest : List Vote) (vote : Vote) (x : ℕ)
    → chosen_after n f seen (rest ++ vote ∷ []) x ≡ or_else (chosen_after n f seen rest x)
    (settled_by n f ((seen ++ rest) ++ vote ∷ []) vote x)
unfolding chosen_after
chosen_after-push n f seen [] vote x =
    or_else-none (settled_by n f (seen ++ vote ∷ []) vote x)
    ∙ ap (λ votes. settled_by n f (votes ++ vote ∷ []) vote x) (sym (append-[] seen))
chosen_after-push n f seen (v ∷ rest) vote x =
    ap (λ o. or_else (settled_by n f (seen ++ v ∷ []) v x) o) (chosen_after-push n f (seen ++ v ∷ []) rest vote x)
    ∙ or_else-assoc (settled_by n f (seen ++ v ∷ []) v x) (chosen_after n f (seen ++ v ∷ []) rest x)
    (settled_by n f (((seen ++ v ∷ []) ++ rest) ++ vote ∷ []) vote x)
    ∙ ap (λ votes. or_else (or_else (settled_by n f (seen ++ v ∷ []) v x) (chosen_after n f (seen ++ v ∷ []) rest x))
    (settled_by n f (votes ++ vote ∷ []) vote x)) (append_assoc seen (v ∷ []) rest)

-- an order that a number has stays; else the vote may settle it
pub chosen-push : (n f : ℕ) (votes : List Vote) (vote : Vote) (x : ℕ) →
    chosen n f (votes ++ vote ∷ []) x ≡ or_else (chosen n f votes x) (settled_by n f (votes ++ vote ∷ []) vote x)
chosen-push n f votes vote x = chosen_after-push n f [] votes vote x

pub greatest_number-push : (votes : List Vote) (vote : Vote) (limit : ℕ) → greatest_number votes < limit →
    vote.voucher.number < limit → greatest_number (votes ++ vote ∷ []) < limit
greatest_number-push [] vote limit most one = omega arith
greatest_number-push (v ∷ rest) vote limit most one =
    let less : greatest_number rest < limit = omega arith in
    let more : greatest_number (rest ++ vote ∷ []) < limit = greatest_number-push rest vote limit less one in
    omega arith

-- a number above all that were voted for has no order
chosen_after-above : (n f : ℕ) (seen rest : List Vote) (x : ℕ) → greatest_number rest < x →
    chosen_after n f seen rest x ≡ None
unfolding chosen_after
chosen_after-above n f seen [] x above = refl
chosen_after-above n f seen (v ∷ rest) x above =
    let other : v.voucher.number ≡ x → ⊥ = omega arith in
    let less : greatest_number rest < x = omega arith in
    ap (λ b. or_else (if b && nat_lt f (length (supporters n (seen ++ v ∷ []) x v.voucher.order))
    then Some v.voucher.order else None) (chosen_after n f (seen ++ v ∷ []) rest x))
    (ne_eqb v.voucher.number x other)
    ∙ chosen_after-above n f (seen ++ v ∷ []) rest x less

pub chosen-above : (n f : ℕ) (votes : List Vote) (x : ℕ) → greatest_number votes < x → chosen n f votes x ≡ None
chosen-above n f votes x above = chosen_after-above n f [] votes x above

module _ (g : ℕ → Option Order) where
  run_from-none : (start most : ℕ) → g start ≡ None → run_from g start most ≡ []
  unfolding run_from
  run_from-none start zero e = refl
  run_from-none start (suc most) e =
      ap (λ (o : Option Order). elim o [ None ↦ [] | Some p ↦ p ∷ run_from g (suc start) most ]) e

  run_from-some : (start most : ℕ) (o : Order) → g start ≡ Some o →
      run_from g start (suc most) ≡ o ∷ run_from g (suc start) most
  unfolding run_from
  run_from-some start most o e =
      ap (λ (o : Option Order). elim o [ None ↦ [] | Some p ↦ p ∷ run_from g (suc start) most ]) e

  run_from-zero : (start : ℕ) → run_from g start zero ≡ []
  unfolding run_from
  run_from-zero start = refl

  -- a list that has each number's order and stops where there is none is the run
  run_from-is : (start most : ℕ) (orders : List Order)
      → ((i : ℕ) → i < length orders → slice_get orders i ≡ g (start + i)) → g (start + length orders) ≡ None →
      length orders ≤ most
      → run_from g start most ≡ orders
  run_from-is start most [] each end fits = run_from-none start most (ap g (omega arith) ∙ end)
  run_from-is start zero (o ∷ orders) each end fits = absurd (omega arith)
  run_from-is start (suc most) (o ∷ orders) each end fits =
      let first : g start ≡ Some o = ap g (omega arith) ∙ sym (each 0 (omega arith)) in
      let fewer : length orders ≤ most = omega arith in
      run_from-some start most o first
      ∙ ap (λ rest. o ∷ rest) (run_from-is (suc start) most orders (λ i lt. each (suc i) (omega arith)
      ∙ ap g (omega arith)) (ap g (omega arith) ∙ end) fewer)

  run_from-each : (start most i : ℕ) → i < length (run_from g start most) →
      slice_get (run_from g start most) i ≡ g (start + i)
  run_from-each start zero i lt =
      absurd (let none : length (run_from g start zero) ≡ 0 = ap length (run_from-zero start) in omega arith)
  run_from-each start (suc most) i lt = by (λ j below. run_from-each (suc start) most j below) (g start) refl
    where
      by : ((j : ℕ) → j < length (run_from g (suc start) most) →
          slice_get (run_from g (suc start) most) j ≡ g (suc start + j)) → (o : Option Order) → g start ≡ o →
          slice_get (run_from g start (suc most)) i ≡ g (start + i)
      by rest None e = absurd (let none : length (run_from g start (suc most)) ≡ 0 =
          ap length (run_from-none start (suc most) e) in omega arith)
      by rest (Some o) e = ap (λ orders. slice_get orders i) (run_from-some start most o e)
          ∙ at i (let n : length (run_from g start (suc most)) ≡ suc (length (run_from g (suc start) most)) =
          ap length (run_from-some start most o e) in omega arith)
        where
          at : (j : ℕ) → j < suc (length (run_from g (suc start) most)) →
              slice_get (o ∷ run_from g (suc start) most) j ≡ g (start + j)
          at zero below = sym (ap g (omega arith) ∙ e)
          at (suc j) below = rest j (omega arith) ∙ ap g (omega arith)

  run_from-end : (start most : ℕ) → ((x : ℕ) → start + most ≤ x → g x ≡ None) →
      g (start + length (run_from g start most)) ≡ None
  run_from-end start zero above = above _ (omega arith)
  run_from-end start (suc most) above =
      by (run_from-end (suc start) most (λ x le. above x (omega arith))) (g start) refl
    where
      by : g (suc start + length (run_from g (suc start) most)) ≡ None → (o : Option Order) → g start ≡ o →
          g (start + length (run_from g start (suc most))) ≡ None
      by rest None e = ap g (let none : length (run_from g start (suc most)) ≡ 0 =
          ap length (run_from-none start (suc most) e) in omega arith) ∙ e
      by rest (Some o) e =
          ap g (let n : length (run_from g start (suc most)) ≡ suc (length (run_from g (suc start) most)) =
          ap length (run_from-some start most o e) in omega arith)
          ∙ rest

  length-run_from : (start most r : ℕ) → ((i : ℕ) → i < r → IsSome (g (start + i))) → g (start + r) ≡ None →
      r ≤ most → length (run_from g start most) ≡ r
  length-run_from start most zero some end fits = ap length (run_from-none start most (ap g (omega arith) ∙ end))
  length-run_from start zero (suc r) some end fits = absurd (omega arith)
  length-run_from start (suc most) (suc r) some end fits =
      by (length-run_from (suc start) most r
      (λ i lt. subst (λ (n : ℕ). IsSome (g n)) (omega arith) (some (suc i) (omega arith)))
      (ap g (omega arith) ∙ end) (omega arith)) (g start) refl
    where
      by : length (run_from g (suc start) most) ≡ r → (o : Option Order) → g start ≡ o →
          length (run_from g start (suc most)) ≡ suc r
      by rest None e = absurd (false≢true (sym (ap is_some (ap g (omega arith) ∙ e)) ∙ some 0 (omega arith)))
      by rest (Some o) e = ap length (run_from-some start most o e) ∙ ap suc rest

-- an order is done at each of the first numbers, and none at the next
pub done-each : (n f : ℕ) (votes : List Vote) (i : ℕ) → i < length (done n f votes) →
    slice_get (done n f votes) i ≡ chosen n f votes (1 + i)
unfolding done
done-each n f votes i lt = run_from-each (chosen n f votes) 1 (greatest_number votes) i lt

pub done-end : (n f : ℕ) (votes : List Vote) → chosen n f votes (1 + length (done n f votes)) ≡ None
unfolding done
done-end n f votes = run_from-end (chosen n f votes) 1 (greatest_number votes)
    (λ x le. chosen-above n f votes x (omega arith))

-- numbers that have an order go no further than the greatest voted for
reaches : (n f : ℕ) (votes : List Vote) (r : ℕ) → ((i : ℕ) → i < r → IsSome (chosen n f votes (1 + i))) →
    r ≤ greatest_number votes
reaches n f votes zero some = omega arith
reaches n f votes (suc r) some = by (cases_lt (greatest_number votes) (1 + r))
  where
    by : (greatest_number votes < 1 + r) ⊎ (1 + r ≤ greatest_number votes) → suc r ≤ greatest_number votes
    by (inl above) = absurd (false≢true (sym (ap is_some (chosen-above n f votes (1 + r) above))
        ∙ some r (omega arith)))
    by (inr le) = omega arith

pub some_at : (orders : List Order) (i : ℕ) → i < length orders → IsSome (slice_get orders i)
some_at [] i lt = absurd (omega arith)
some_at (o ∷ orders) zero lt = refl
some_at (o ∷ orders) (suc i) lt = some_at orders i (omega arith)

pub done-is : (n f : ℕ) (votes : List Vote) (orders : List Order)
    → ((i : ℕ) → i < length orders → slice_get orders i ≡ chosen n f votes (1 + i)) →
    chosen n f votes (1 + length orders) ≡ None → done n f votes ≡ orders
unfolding done
done-is n f votes orders each end =
    run_from-is (chosen n f votes) 1 (greatest_number votes) orders each end
    (reaches n f votes (length orders) (λ i lt. sym (ap is_some (each i lt)) ∙ some_at orders i lt))

pub length-done : (n f : ℕ) (votes : List Vote) (r : ℕ)
    → ((i : ℕ) → i < r → IsSome (chosen n f votes (1 + i))) → chosen n f votes (1 + r) ≡ None →
    length (done n f votes) ≡ r
unfolding done
length-done n f votes r some end = length-run_from (chosen n f votes) 1 (greatest_number votes) r some end
    (reaches n f votes r some)

pub done-none : (n f : ℕ) → done n f [] ≡ []
done-none n f = done-is n f [] [] (λ i lt. absurd (omega arith)) (chosen-above n f [] 1 (omega arith))

pub chosen-none : (n f x : ℕ) → chosen n f [] x ≡ None
unfolding chosen_after
chosen-none n f x = refl

pub supporters-none : (n x : ℕ) (o : Order) → supporters n [] x o ≡ []
unfolding supporters
supporters-none n x o = voters_none n

pub slice_get-left : (a b : List Order) (i : ℕ) → i < length a → slice_get (a ++ b) i ≡ slice_get a i
slice_get-left [] b i lt = absurd (omega arith)
slice_get-left (o ∷ a) b zero lt = refl
slice_get-left (o ∷ a) b (suc i) lt = slice_get-left a b i (omega arith)

pub slice_get-right : (a b : List Order) (i : ℕ) → length a ≤ i → slice_get (a ++ b) i ≡ slice_get b (i - length a)
slice_get-right [] b i le = ap (slice_get b) (omega arith)
slice_get-right (o ∷ a) b zero le = absurd (omega arith)
slice_get-right (o ∷ a) b (suc i) le = slice_get-right a b i (omega arith) ∙ ap (slice_get b) (omega arith)
