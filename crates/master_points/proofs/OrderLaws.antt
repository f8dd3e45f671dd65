-- Executing more updates only appends orders to a client's list, and the lists that are kept are the orders of
-- the definition. Each law is shown for one order, one update and then for all.
use Rattle.std.proofs.Common.{◌≡◌, ◌≢◌, ◌<◌, ◌+◌, ◌==◌, ℕ, zero, suc, Bool, true, false, if◌then◌else◌, List, [], ◌∷◌}
use Rattle.std.proofs.Common.{◌++◌, length, replicate, Some, slice_get, refl, sym, ◌∙◌, ap, arith, append_assoc}
use Rattle.std.proofs.Common.{append-nil}
use Rattle.std.proofs.lemmas.Grind.{common_steps}
use Rattle.std.proofs.lemmas.Bool.{eqb-true}
use Rattle.message_types.specs.declared.updates.Update.{Update}
use Rattle.message_types.specs.declared.vouchers.Order.{Order}
use Rattle.master_points.specs.declared.effect.Addressed.{Addressed}
use Rattle.master_points.specs.Effects.{Site, State, settled, effect}
use Rattle.master_points.specs.Lists.{add_to, given}
use Rattle.master_points.specs.Orders.{orders, orders_for, said_by, state_after, site_of, start_of, Held, fresh}
use Rattle.master_points.specs.Orders.{applied, held_after, OnlyAppends, HoldsOrders}

for_step : (b : Bool) (o : Order) (xs ys : List Order) →
    (if b then o ∷ (xs ++ ys) else xs ++ ys) ≡ (if b then o ∷ xs else xs) ++ ys
for_step true o xs ys = refl
for_step false o xs ys = refl

-- the orders for a client of two lists
pub orders_for-append : (client : ℕ) (xs ys : List Addressed) → orders_for client (xs ++ ys) ≡ orders_for client xs
    ++ orders_for client ys
orders_for-append client [] ys = refl
orders_for-append client (x ∷ xs) ys =
    ap (λ (r : List Order). if x.client == client then x.order ∷ r else r) (orders_for-append client xs ys)
    ∙ for_step (x.client == client) x.order (orders_for client xs) (orders_for client ys)

-- the orders of updates, and then of more
pub said_by-append : (site : Site) (s : State) (us more : List Update) →
    said_by site s (us ++ more) ≡ said_by site s us ++ said_by site (state_after site s us) more
said_by-append site s [] more = refl
said_by-append site s (u ∷ us) more =
    ap (λ (x : List Addressed). (effect site s u).orders ++ x)
    (said_by-append site (settled (effect site s u).step s) us more)
    ∙ sym (append_assoc (effect site s u).orders (said_by site (settled (effect site s u).step s) us) _)

pub only-appends : OnlyAppends
unfolding orders
only-appends plant screens us more client = (
  orders_for client (said_by (site_of plant screens) (state_after (site_of plant screens) (start_of plant) us) more),
  ap (orders_for client) (said_by-append (site_of plant screens) (start_of plant) us more)
      ∙ orders_for-append client (said_by (site_of plant screens) (start_of plant) us) _,
)

add_to-same : (c : ℕ) (o : Order) (ls : List (List Order)) (l : List Order) → slice_get ls c ≡ Some l →
    slice_get (add_to c o ls) c ≡ Some (l ++ o ∷ [])
add_to-same c o [] l at = absurd (cc)
add_to-same zero o (m ∷ ls) l at = let same : m ≡ l = cc in ap (λ (x : List Order). Some (x ++ o ∷ [])) same
add_to-same (suc c) o (m ∷ ls) l at = add_to-same c o ls l at

add_to-other : (k c : ℕ) (o : Order) (ls : List (List Order)) → k ≢ c → slice_get (add_to k o ls) c ≡ slice_get ls c
add_to-other k c o [] ne = refl
add_to-other zero zero o (m ∷ ls) ne = absurd (ne refl)
add_to-other zero (suc c) o (m ∷ ls) ne = refl
add_to-other (suc k) zero o (m ∷ ls) ne = refl
add_to-other (suc k) (suc c) o (m ∷ ls) ne = add_to-other k c o ls (λ e. ne (ap suc e))

unequal_by : (m n : ℕ) → (m == n) ≡ false → m ≢ n
unequal_by m n h = λ e. absurd (grind (arith, common_steps))

add_to-at : (k c : ℕ) (b : Bool) (o : Order) (ls : List (List Order)) (l : List Order) → (k == c) ≡ b →
    slice_get ls c ≡ Some l → slice_get (add_to k o ls) c ≡ Some (if b then l ++ o ∷ [] else l)
add_to-at k c true o ls l h at = let same : k ≡ c = eqb-true k c h in ap (λ (n : ℕ). slice_get (add_to n o ls) c) same
    ∙ add_to-same c o ls l at
add_to-at k c false o ls l h at = add_to-other k c o ls (unequal_by k c h) ∙ at

joined : (b : Bool) (o : Order) (l r : List Order) → (if b then l ++ o ∷ [] else l) ++ r ≡ l ++ (if b then o ∷ r else r)
joined true o l r = append_assoc l (o ∷ []) r
joined false o l r = refl

-- what a client's list is after orders are given
pub given-at : (as' : List Addressed) (ls : List (List Order)) (c : ℕ) (l : List Order) → slice_get ls c ≡ Some l →
    slice_get (given as' ls) c ≡ Some (l ++ orders_for c as')
given-at [] ls c l at = at ∙ ap (λ (x : List Order). Some x) (sym (append-nil l))
given-at (a ∷ as') ls c l at =
    given-at as' (add_to a.client a.order ls) c _ (add_to-at a.client c (a.client == c) a.order ls l refl at)
    ∙ ap (λ (x : List Order). Some x) (joined (a.client == c) a.order l (orders_for c as'))

pub held-at : (us : List Update) (h : Held) (c : ℕ) (l : List Order) → slice_get h.lists c ≡ Some l →
    slice_get (held_after h us).lists c ≡ Some (l ++ orders_for c (said_by h.site h.state us))
held-at [] h c l at = at ∙ ap (λ (x : List Order). Some x) (sym (append-nil l))
held-at (u ∷ us) h c l at =
    held-at us (applied h u) c _ (given-at (effect h.site h.state u).orders h.lists c l at)
    ∙ ap (λ (x : List Order). Some x)
    (append_assoc l (orders_for c (effect h.site h.state u).orders) _
    ∙ ap (λ (x : List Order). l ++ x)
    (sym (orders_for-append c (effect h.site h.state u).orders
    (said_by h.site (settled (effect h.site h.state u).step h.state) us))))

empty_at : (n c : ℕ) → c < n → slice_get {X = List Order} (replicate n []) c ≡ Some []
empty_at zero c low = absurd (omega arith)
empty_at (suc n) zero low = refl
empty_at (suc n) (suc c) low = empty_at n c (omega arith)

pub holds-orders : HoldsOrders
unfolding orders
holds-orders plant screens us client low =
    held-at us (fresh plant screens) client [] (empty_at (length plant.devices + screens) client low)
