-- What one vote more does to a tally.
use Rattle.std.proofs.Common.{◌≡◌, ℕ, ◌+◌, ◌^◌, ◌<◌, ◌≤◌, Bool, true, false, ◌&&◌, List, [], ◌∷◌, ◌++◌, Option, Some}
use Rattle.std.proofs.Common.{None, length, nat_eq, nat_lt, slice_get, IsSome, is_some, unwrap_or, refl, sym, ◌∙◌, ap}
use Rattle.std.proofs.Common.{subst, inl, inr, ◌⊎◌, arith, if◌then◌else◌}
use Rattle.std.specs.Prelude.{Result, Ok, Err, OnErr}
use Rattle.std.specs.Ordering.{nat_cmp, is_eq, ordering_then}
use Rattle.std.specs.declared.cmp.Ordering.{Ordering}
use Rattle.std.specs.declared.cmp.Ordering.TheVariants.{Less, Equal, Greater}
use Rattle.std.specs.Cmp.Lexicographic.{slice_cmp}
use Rattle.std.specs.Cmp.{unsigned_tied}
use Rattle.std.specs.BTreeMap.{BTreeMap, get, is_at}
use Rattle.std.specs.Map.{lookup}
use Rattle.std.proofs.Common.{lit<, ◌-◌, length-append}
use Rattle.std.proofs.Math.Bool.{and-true}
use Rattle.std.proofs.lemmas.Map.Lookups.{exact_bytes}
use Rattle.std.proofs.lemmas.Bool.{cases_eq, cases_lt, ne_eqb, eq-eqb, false≢true}
use Rattle.message_types.specs.Texts.{notice_number}
use Rattle.message_types.specs.declared.vouchers.Order.{Order}
use Rattle.message_types.specs.declared.vouchers.Order.TheVariants as order
use Rattle.vouched_orders.specs.declared.vote.Vote.{Vote}
use Rattle.vouched_orders.specs.Vouching.{same_order, is_for, supporters, or_else, settled_by, chosen}
use Rattle.vouched_orders.specs.Vouching.{greatest_number, done}
use Rattle.vouched_orders.specs.Tally.{ballot, masters_at, order_with, with_signer, IsTally}
use Rattle.vouched_orders.proofs.VouchingLaws.{same_order-refl, supporters-push, chosen-push, greatest_number-push}
use Rattle.vouched_orders.proofs.VouchingLaws.{chosen-above, done-each, done-end, done-is, length-done, done-none}
use Rattle.vouched_orders.proofs.VouchingLaws.{chosen-none, supporters-none, some_at, slice_get-left, slice_get-right}
use Rattle.plain_lists.proofs.Orders.{is_eq_then}

pair_tied : (x y : ℕ) (rest : Ordering) → is_eq (ordering_then (nat_cmp x y) rest) ≡ (nat_eq x y && is_eq rest)
pair_tied x y rest = is_eq_then (nat_cmp x y) rest ∙ ap (λ b. b && is_eq rest) (unsigned_tied x y)

last_tied : (x y : ℕ) → is_eq (ordering_then (nat_cmp x y) Equal) ≡ nat_eq x y
last_tied x y = pair_tied x y Equal ∙ and-true (nat_eq x y)

and-assoc : (a b c : Bool) → (a && (b && c)) ≡ (a && b && c)
and-assoc true b c = refl
and-assoc false b c = refl

-- keys are equal where the numbers are, and the orders are the same
same_ballot : (x y : ℕ) (o p : Order) →
    is_eq (slice_cmp nat_cmp (ballot x o) (ballot y p)) ≡ (nat_eq x y && same_order o p)
same_ballot x y (order.Write p r) (order.Write q s) =
    pair_tied x y _ ∙ ap (λ b. nat_eq x y && b) (pair_tied p q _ ∙ ap (λ b. nat_eq p q && b) (last_tied r s))
same_ballot x y (order.Write p r) (order.Notice n) = pair_tied x y Less
same_ballot x y (order.Notice m) (order.Write q s) = pair_tied x y Greater
same_ballot x y (order.Notice m) (order.Notice n) =
    pair_tied x y _ ∙ ap (λ b. nat_eq x y && b)
    (pair_tied (notice_number m.what) (notice_number n.what) _
    ∙ ap (λ b. nat_eq (notice_number m.what) (notice_number n.what) && b)
    (pair_tied m.t n.t _ ∙ ap (λ b. nat_eq m.t n.t && b) (last_tied m.number n.number))
    ∙ and-assoc (nat_eq (notice_number m.what) (notice_number n.what)) (nat_eq m.t n.t) (nat_eq m.number n.number))

is_Equal : (o : Ordering) → is_eq o ≡ true → o ≡ Equal
is_Equal Less e = absurd (false≢true e)
is_Equal Equal e = refl
is_Equal Greater e = absurd (false≢true e)

equal_ballots : (x y : ℕ) (o p : Order) → (nat_eq x y && same_order o p) ≡ true → ballot x o ≡ ballot y p
equal_ballots x y o p e = exact_bytes (ballot x o) (ballot y p) (is_Equal _ (same_ballot x y o p ∙ e))

own_ballot : (vote : Vote) → is_for vote.voucher.number vote.voucher.order vote ≡ true
own_ballot vote =
    ap (λ b. b && same_order vote.voucher.order vote.voucher.order)
    (eq-eqb vote.voucher.number vote.voucher.number refl) ∙ same_order-refl vote.voucher.order

-- the tally of no votes
pub tally-none : (n f : ℕ) (masters : BTreeMap (List ℕ) (List ℕ)) (settled : BTreeMap ℕ Order) →
    masters.entries ≡ [] → settled.entries ≡ [] → IsTally n f [] masters.entries settled.entries 0
tally-none n f masters settled m s = record {
  supporters_are = λ x o. ap (λ es. unwrap_or (lookup (is_at (slice_cmp nat_cmp (ballot x o))) es) []) m
      ∙ sym (supporters-none n x o);
  orders_are = λ x. ap (λ es. lookup (is_at (nat_cmp x)) es) s ∙ sym (chosen-none n f x);
  count_is = sym (ap length (done-none n f));
  numbers_fit = lit< tt;
}

or_else-none : (o : Option Order) → or_else o None ≡ o
or_else-none None = refl
or_else-none (Some o) = refl

or_else-keeps : (o p : Option Order) → IsSome o → IsSome (or_else o p)
or_else-keeps None p some = absurd (false≢true some)
or_else-keeps (Some o) p some = refl

pub or_else-kept : (o p : Option Order) → IsSome o → or_else o p ≡ o
or_else-kept None p some = absurd (false≢true some)
or_else-kept (Some o) p some = refl

module _ (n f : ℕ) (few : n ≤ 14) (votes : List Vote) (vote : Vote) (masters : BTreeMap (List ℕ) (List ℕ))
    (settled : BTreeMap ℕ Order) (count : ℕ) (with_it : List ℕ) (settles : Bool) where
  -- the supporters of the vote's order, with its signer
  own_supporters : IsTally n f votes masters.entries settled.entries count →
      with_it ≡ with_signer n (masters_at masters (ballot vote.voucher.number vote.voucher.order)) vote.signer
      → supporters n (votes ++ vote ∷ []) vote.voucher.number vote.voucher.order ≡ with_it
  own_supporters tally joined =
      supporters-push n votes vote vote.voucher.number vote.voucher.order few
      ∙ ap (λ b. if b then with_signer n (supporters n votes vote.voucher.number vote.voucher.order)
      vote.signer else supporters n votes vote.voucher.number vote.voucher.order) (own_ballot vote)
      ∙ sym (joined ∙ ap (λ ms. with_signer n ms vote.signer)
      (tally.supporters_are vote.voucher.number vote.voucher.order))

  -- what the vote settles
  settled-is : IsTally n f votes masters.entries settled.entries count →
      with_it ≡ with_signer n (masters_at masters (ballot vote.voucher.number vote.voucher.order)) vote.signer
      → settles ≡ nat_lt f (length with_it) → (x : ℕ)
      → settled_by n f (votes ++ vote ∷ []) vote x ≡ (if nat_eq vote.voucher.number x
      && settles then Some vote.voucher.order else None)
  settled-is tally joined enough x = by (cases_eq vote.voucher.number x)
    where
      by : (vote.voucher.number ≡ x) ⊎ (vote.voucher.number ≡ x → ⊥)
          → settled_by n f (votes ++ vote ∷ []) vote x ≡ (if nat_eq vote.voucher.number x
          && settles then Some vote.voucher.order else None)
      by (inl e) =
          ap (λ b. if nat_eq vote.voucher.number x && b then Some vote.voucher.order else None)
          (ap (λ (y : ℕ). nat_lt f (length (supporters n (votes ++ vote ∷ []) y vote.voucher.order))) (sym e)
          ∙ ap (λ ms. nat_lt f (length ms)) (own_supporters tally joined) ∙ sym enough)
      by (inr ne) =
          ap (λ b. if b && nat_lt f (length (supporters n (votes ++ vote ∷ []) x vote.voucher.order))
          then Some vote.voucher.order else None) (ne_eqb vote.voucher.number x ne)
          ∙ sym (ap (λ b. if b && settles then Some vote.voucher.order else None) (ne_eqb vote.voucher.number x ne))

  chosen-is : IsTally n f votes masters.entries settled.entries count →
      with_it ≡ with_signer n (masters_at masters (ballot vote.voucher.number vote.voucher.order)) vote.signer
      → settles ≡ nat_lt f (length with_it) → (x : ℕ)
      → chosen n f (votes ++ vote ∷ []) x ≡ or_else (get nat_cmp settled x)
      (if nat_eq vote.voucher.number x && settles then Some vote.voucher.order else None)
  chosen-is tally joined enough x =
      chosen-push n f votes vote x
      ∙ ap (λ o. or_else o (settled_by n f (votes ++ vote ∷ []) vote x)) (sym (tally.orders_are x))
      ∙ ap (λ o. or_else (get nat_cmp settled x) o) (settled-is tally joined enough x)

  -- what was done stays
  stays : IsTally n f votes masters.entries settled.entries count → (i : ℕ) → i < count →
      (slice_get (done n f votes) i ≡ chosen n f (votes ++ vote ∷ []) (1 + i))
      × IsSome (chosen n f (votes ++ vote ∷ []) (1 + i))
  stays tally i lt =
      let within : i < length (done n f votes) = let counted = tally.count_is in omega arith in
      let some : IsSome (chosen n f votes (1 + i)) = sym (ap is_some (done-each n f votes i within))
      ∙ some_at (done n f votes) i within in
      let kept : chosen n f (votes ++ vote ∷ []) (1 + i) ≡ chosen n f votes (1 + i) =
      chosen-push n f votes vote (1 + i) ∙ or_else-kept (chosen n f votes (1 + i))
      (settled_by n f (votes ++ vote ∷ []) vote (1 + i)) some in
      (done-each n f votes i within ∙ sym kept, ap is_some kept ∙ some)

  none_next : IsTally n f votes masters.entries settled.entries count → chosen n f votes (1 + count) ≡ None
  none_next tally = ap (λ (m : ℕ). chosen n f votes (1 + m)) tally.count_is ∙ done-end n f votes

  none_there : IsTally n f votes masters.entries settled.entries count → get nat_cmp settled (1 + count) ≡ None
  none_there tally = tally.orders_are (1 + count) ∙ none_next tally

  -- the tally after the vote
  pub tally-push : (masters' : BTreeMap (List ℕ) (List ℕ)) (settled' : BTreeMap ℕ Order) (count' : ℕ)
      → IsTally n f votes masters.entries settled.entries count →
      with_it ≡ with_signer n (masters_at masters (ballot vote.voucher.number vote.voucher.order)) vote.signer
      → settles ≡ nat_lt f (length with_it) → vote.voucher.number < 2 ^ 64
      → ((key : List ℕ) → masters_at masters' key ≡
      (if is_eq (slice_cmp nat_cmp (ballot vote.voucher.number vote.voucher.order) key)
      then with_it else masters_at masters key))
      → ((x : ℕ) → get nat_cmp settled' x ≡ or_else (get nat_cmp settled x)
      (if nat_eq vote.voucher.number x && settles then Some vote.voucher.order else None))
      → count ≤ count' → ((i : ℕ) → count ≤ i → i < count' → IsSome (get nat_cmp settled' (i + 1)))
      → (count' + 1 < 2 ^ 64 → get nat_cmp settled' (count' + 1) ≡ None)
      → IsTally n f (votes ++ vote ∷ []) masters'.entries settled'.entries count'
  tally-push masters' settled' count' tally joined enough fits noted settled_is from run end =
      let orders_are : (x : ℕ) → get nat_cmp settled' x ≡ chosen n f (votes ++ vote ∷ []) x =
      λ x. settled_is x ∙ sym (chosen-is tally joined enough x) in
      let numbers_fit : greatest_number (votes ++ vote ∷ []) < 2 ^ 64 =
      greatest_number-push votes vote (2 ^ 64) tally.numbers_fit fits in
      record {
        supporters_are = λ x o. at_key x o (is_for x o vote) refl;
        orders_are = orders_are;
        count_is = sym (length-done n f (votes ++ vote ∷ []) count' (λ i lt. each i lt orders_are (cases_lt i count))
            (last orders_are numbers_fit (cases_lt (count' + 1) (2 ^ 64))));
        numbers_fit = numbers_fit;
      }
    where
      at_key : (x : ℕ) (o : Order) (b : Bool) → is_for x o vote ≡ b →
          masters_at masters' (ballot x o) ≡ supporters n (votes ++ vote ∷ []) x o
      at_key x o true e =
          noted (ballot x o) ∙ ap (λ b. if b then with_it else masters_at masters (ballot x o))
          (same_ballot vote.voucher.number x vote.voucher.order o ∙ e)
          ∙ joined ∙ ap (λ key. with_signer n (masters_at masters key) vote.signer)
          (equal_ballots vote.voucher.number x vote.voucher.order o e)
          ∙ ap (λ ms. with_signer n ms vote.signer) (tally.supporters_are x o)
          ∙ sym (supporters-push n votes vote x o few
          ∙ ap (λ b. if b then with_signer n (supporters n votes x o) vote.signer else supporters n votes x o) e)
      at_key x o false e =
          noted (ballot x o) ∙ ap (λ b. if b then with_it else masters_at masters (ballot x o))
          (same_ballot vote.voucher.number x vote.voucher.order o ∙ e)
          ∙ tally.supporters_are x o
          ∙ sym (supporters-push n votes vote x o few
          ∙ ap (λ b. if b then with_signer n (supporters n votes x o) vote.signer else supporters n votes x o) e)

      each : (i : ℕ) → i < count' → ((x : ℕ) → get nat_cmp settled' x ≡ chosen n f (votes ++ vote ∷ []) x) →
          (i < count) ⊎ (count ≤ i) → IsSome (chosen n f (votes ++ vote ∷ []) (1 + i))
      each i lt are (inl before) = (stays tally i before).1
      each i lt are (inr le) = ap is_some (sym (are (1 + i))) ∙ ap (λ (m : ℕ). is_some (get nat_cmp settled' m))
          (omega arith) ∙ run i le lt

      last : ((x : ℕ) → get nat_cmp settled' x ≡ chosen n f (votes ++ vote ∷ []) x) →
          greatest_number (votes ++ vote ∷ []) < 2 ^ 64 → (count' + 1 < 2 ^ 64) ⊎ (2 ^ 64 ≤ count' + 1)
          → chosen n f (votes ++ vote ∷ []) (1 + count') ≡ None
      last are most (inl lt) = sym (are (1 + count')) ∙ ap (λ (m : ℕ). get nat_cmp settled' m) (omega arith) ∙ end lt
      last are most (inr le) = chosen-above n f (votes ++ vote ∷ []) (1 + count') (omega arith)

  -- a vote that isn't for the next number, or doesn't settle it, makes nothing done
  pub ready-none : IsTally n f votes masters.entries settled.entries count →
      with_it ≡ with_signer n (masters_at masters (ballot vote.voucher.number vote.voucher.order)) vote.signer
      → settles ≡ nat_lt f (length with_it) → (nat_eq vote.voucher.number (1 + count) && settles) ≡ false
      → done n f (votes ++ vote ∷ []) ≡ done n f votes
  ready-none tally joined enough not_now =
      done-is n f (votes ++ vote ∷ []) (done n f votes)
      (λ i lt. (stays tally i (let counted = tally.count_is in omega arith)).0)
      (ap (λ (m : ℕ). chosen n f (votes ++ vote ∷ []) (1 + m)) (sym tally.count_is)
      ∙ chosen-is tally joined enough (1 + count)
      ∙ ap (λ o. or_else o (if nat_eq vote.voucher.number (1 + count)
      && settles then Some vote.voucher.order else None)) (none_there tally)
      ∙ ap (λ b. if b then Some vote.voucher.order else None) not_now)

  -- one that settles the next number makes its order done, and those of the numbers behind that have one
  pub ready-run : (run : List Order)
      → IsTally n f votes masters.entries settled.entries count →
      with_it ≡ with_signer n (masters_at masters (ballot vote.voucher.number vote.voucher.order)) vote.signer
      → settles ≡ nat_lt f (length with_it) → vote.voucher.number < 2 ^ 64 →
      vote.voucher.number ≡ 1 + count → settles ≡ true
      → ((i : ℕ) → i < length run → slice_get run i ≡ order_with settled vote.voucher (vote.voucher.number + i))
      → (vote.voucher.number + length run < 2 ^ 64 →
      order_with settled vote.voucher (vote.voucher.number + length run) ≡ None)
      → done n f (votes ++ vote ∷ []) ≡ done n f votes ++ run
  ready-run run tally joined enough fits next now each end =
      let counted = tally.count_is in
      done-is n f (votes ++ vote ∷ []) (done n f votes ++ run)
      (λ i lt. at i lt (cases_lt i (length (done n f votes))))
      (last (cases_lt (vote.voucher.number + length run) (2 ^ 64)))
    where
      chosen_with : (x : ℕ) → chosen n f (votes ++ vote ∷ []) x ≡ order_with settled vote.voucher x
      chosen_with x = by (cases_eq vote.voucher.number x)
        where
          by : (vote.voucher.number ≡ x) ⊎ (vote.voucher.number ≡ x → ⊥) →
              chosen n f (votes ++ vote ∷ []) x ≡ order_with settled vote.voucher x
          by (inl e) =
              chosen-is tally joined enough x
              ∙ ap (λ o. or_else o (if nat_eq vote.voucher.number x
              && settles then Some vote.voucher.order else None))
              (ap (λ (m : ℕ). get nat_cmp settled m) (sym e ∙ next) ∙ none_there tally)
              ∙ ap (λ b. if nat_eq vote.voucher.number x && b then Some vote.voucher.order else None) now
              ∙ ap (λ b. if b && true then Some vote.voucher.order else None) (eq-eqb vote.voucher.number x e)
              ∙ sym (ap (λ b. if b then Some vote.voucher.order else get nat_cmp settled x)
              (eq-eqb vote.voucher.number x e))
          by (inr ne) =
              chosen-is tally joined enough x
              ∙ ap (λ b. or_else (get nat_cmp settled x) (if b && settles then Some vote.voucher.order else None))
              (ne_eqb vote.voucher.number x ne)
              ∙ or_else-none (get nat_cmp settled x)
              ∙ sym (ap (λ b. if b then Some vote.voucher.order else get nat_cmp settled x)
              (ne_eqb vote.voucher.number x ne))

      at : (i : ℕ) → i < length (done n f votes ++ run) → (i < length (done n f votes)) ⊎ (length (done n f votes) ≤ i)
          → slice_get (done n f votes ++ run) i ≡ chosen n f (votes ++ vote ∷ []) (1 + i)
      at i lt (inl before) = slice_get-left (done n f votes) run i before
          ∙ (stays tally i (let counted = tally.count_is in omega arith)).0
      at i lt (inr le) =
          let counted = tally.count_is in
          let within : i - length (done n f votes) < length run = omega (arith, length-append (done n f votes) run) in
          slice_get-right (done n f votes) run i le ∙ each (i - length (done n f votes)) within
          ∙ sym (chosen_with (vote.voucher.number + (i - length (done n f votes))))
          ∙ ap (λ (x : ℕ). chosen n f (votes ++ vote ∷ []) x) (omega arith)

      last : (vote.voucher.number + length run < 2 ^ 64) ⊎ (2 ^ 64 ≤ vote.voucher.number + length run) →
          chosen n f (votes ++ vote ∷ []) (1 + length (done n f votes ++ run)) ≡ None
      last (inl lt) =
          ap (λ (x : ℕ). chosen n f (votes ++ vote ∷ []) x) (let counted = tally.count_is in
          omega (arith, length-append (done n f votes) run))
          ∙ chosen_with (vote.voucher.number + length run) ∙ end lt
      last (inr le) =
          let most : greatest_number (votes ++ vote ∷ []) < 2 ^ 64 =
          greatest_number-push votes vote (2 ^ 64) tally.numbers_fit fits in
          chosen-above n f (votes ++ vote ∷ []) (1 + length (done n f votes ++ run)) (let counted = tally.count_is in
          omega (arith, length-append (done n f votes) run))

-- the tally stays where the maps say the same
pub tally-same : (n f : ℕ) (votes : List Vote) (masters masters' : BTreeMap (List ℕ) (List ℕ))
    (settled settled' : BTreeMap ℕ Order) (count : ℕ)
    → IsTally n f votes masters.entries settled.entries count →
    ((key : List ℕ) → masters_at masters' key ≡ masters_at masters key) →
    ((x : ℕ) → get nat_cmp settled' x ≡ get nat_cmp settled x)
    → IsTally n f votes masters'.entries settled'.entries count
tally-same n f votes masters masters' settled settled' count tally m s = record {
  supporters_are = λ x o. m (ballot x o) ∙ tally.supporters_are x o;
  orders_are = λ x. s x ∙ tally.orders_are x;
  count_is = tally.count_is;
  numbers_fit = tally.numbers_fit;
}

-- what is done by a tally's own sizes is done by those of its votes
pub done-sized : (n f m g : ℕ) (more votes : List Vote) (orders : List Order) → m ≡ n → g ≡ f →
    done m g more ≡ done m g votes ++ orders → done n f more ≡ done n f votes ++ orders
done-sized n f m g more votes orders same alike is =
    subst (λ (a : ℕ). done a f more ≡ done a f votes ++ orders) same
    (subst (λ (b : ℕ). done m b more ≡ done m b votes ++ orders) alike is)

pub on_err : {V E A : Type 0} (r : Result V E) → A → OnErr r A
on_err (Ok v) a = tt
on_err (Err e) a = a
