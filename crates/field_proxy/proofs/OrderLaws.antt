-- Orders one by one.
use Rattle.std.proofs.Common.{◌≡◌, ◌<◌, ◌≤◌, ◌+◌, ℕ, suc, zero, Bool, true, false, List, [], ◌∷◌, ◌++◌, length, take}
use Rattle.std.proofs.Common.{refl, sym, ap, ◌∙◌, arith, add-zero, append_assoc, get_or}
use Rattle.std.specs.Prelude.{Option, Some, None, slice_get, nat_eq, ◌&&◌, map}
use Rattle.std.specs.List.{list_all}
use Rattle.std.proofs.lemmas.List.{append-nil, map-append, take_more, length-take-le}
use Rattle.std.proofs.lemmas.Bool.{and_parts}
use Rattle.message_types.specs.declared.vouchers.Order.{Order}
use Rattle.message_types.specs.declared.vouchers.Order.TheVariants as order
use Rattle.point_table.specs.declared.point.Point.{Point}
use Rattle.field_device.specs.Places.{Places}
use Rattle.field_device.specs.Table.{exception_for, after}
use Rattle.field_proxy.specs.declared.writes.Write.{Write}
use Rattle.field_proxy.specs.Writes.{is_own, can_write, write_request, after_write, after_order, after_orders, kept}
use Rattle.field_proxy.specs.Writes.{kept_of, kept_orders, order_of}

pub after_orders-push : (points : List Point) (d : Places) (os : List Order) (o : Order)
    → after_orders points d (os ++ o ∷ []) ≡ after_order points (after_orders points d os) o
unfolding after_orders
after_orders-push points d [] o = refl
after_orders-push points d (p ∷ os) o = after_orders-push points (after_order points d p) os o

pub kept_orders-push : (points : List Point) (d : Places) (x : ℕ) (os : List Order) (o : Order)
    → kept_orders points d x (os ++ o ∷ []) ≡ kept_orders points d x os
    ++ kept_of points (after_orders points d os) (x + length os) o
unfolding kept_orders after_orders
kept_orders-push points d x [] o =
    append-nil (kept_of points d x o) ∙ ap (λ n. kept_of points d n o) (sym (add-zero x))
kept_orders-push points d x (p ∷ os) o =
    let same : suc x + length os ≡ x + suc (length os) = omega arith in
    let d' = after_order points d p in
    ap (λ rest. kept_of points d x p ++ rest)
    (kept_orders-push points d' (suc x) os o
    ∙ ap (λ n. kept_orders points d' (suc x) os ++ kept_of points (after_orders points d' os) n o) same)
    ∙ sym (append_assoc (kept_of points d x p) (kept_orders points d' (suc x) os)
    (kept_of points (after_orders points d' os) (x + suc (length os)) o))

pub after_orders-none : (points : List Point) (d : Places) → after_orders points d [] ≡ d
unfolding after_orders
after_orders-none points d = refl

pub kept_orders-none : (points : List Point) (d : Places) (x : ℕ) → kept_orders points d x [] ≡ []
unfolding kept_orders
kept_orders-none points d x = refl

-- each order that can be carried out is kept as one write
kept_one : (client : ℕ) (d : Places) (x number raw : ℕ) (p : Option Point) → is_own client p ≡ true
    → map order_of (kept d x number raw p) ≡ order.Write number raw ∷ []
kept_one client d x number raw (Some p) own = refl
kept_one client d x number raw None own = absurd (cc)

one_kept : (points : List Point) (client : ℕ) (d : Places) (x : ℕ) (o : Order) → can_write points client o ≡ true
    → map order_of (kept_of points d x o) ≡ o ∷ []
one_kept points client d x (order.Write number raw) can = kept_one client d x number raw (slice_get points number) can
one_kept points client d x (order.Notice n) can = absurd (cc)

pub orders_kept : (points : List Point) (client : ℕ) (d : Places) (x : ℕ) (os : List Order) →
    list_all (can_write points client) os ≡ true
    → map order_of (kept_orders points d x os) ≡ os
unfolding kept_orders
orders_kept points client d x [] all = refl
orders_kept points client d x (o ∷ os) all =
    let parts = and_parts (can_write points client o) (list_all (can_write points client) os) all in
    map-append order_of (kept_of points d x o) (kept_orders points (after_order points d o) (suc x) os)
    ∙ ap (λ front. front ++ map order_of (kept_orders points (after_order points d o) (suc x) os))
    (one_kept points client d x o parts.0)
    ∙ ap (λ rest. o ∷ rest) (orders_kept points client (after_order points d o) (suc x) os parts.1)

-- an order to write a point that is there, and one to a point that isn't

pub after_order_is : (points : List Point) (d : Places) (o : Order) (number raw : ℕ) (p : Point) →
    o ≡ order.Write number raw
    → slice_get points number ≡ Some p → after_order points d o ≡ after d (write_request p raw)
after_order_is points d o number raw p is there =
    ap (after_order points d) is ∙ ap (λ (q : Option Point). after_write d q raw) there

pub kept_is : (points : List Point) (d : Places) (x : ℕ) (o : Order) (number raw : ℕ) (p : Point) →
    o ≡ order.Write number raw
    → slice_get points number ≡ Some p
    → kept_of points d x o ≡ record {
      number = x;
      point = number;
      raw = raw;
      exception =
          exception_for d (write_request p raw);
    } ∷ []
kept_is points d x o number raw p is there = ap (kept_of points d x) is
    ∙ ap (λ (q : Option Point). kept d x number raw q) there

pub kept_nothing : (points : List Point) (d : Places) (x : ℕ) (o : Order) (number raw : ℕ) (writes : List Write) →
    o ≡ order.Write number raw
    → slice_get points number ≡ None → writes ≡ writes ++ kept_of points d x o
kept_nothing points d x o number raw writes is out =
    sym (ap (λ k. writes ++ k) (ap (kept_of points d x) is ∙ ap (λ (q : Option Point). kept d x number raw q) out)
    ∙ append-nil writes)

-- the same over the beginning of a list

pub after_orders_more : (points : List Point) (d now : Places) (os : List Order) (i : ℕ) (e : Order) → i < length os →
    now ≡ after_orders points d (take i os)
    → after_order points now (get_or os i e) ≡ after_orders points d (take (i + 1) os)
after_orders_more points d now os i e less is =
    ap (λ s. after_order points s (get_or os i e)) is ∙ sym (after_orders-push points d (take i os) (get_or os i e))
    ∙ ap (after_orders points d) (sym (take_more os i e less))

pub kept_orders_more : (points : List Point) (d now : Places) (x n : ℕ) (before writes more : List Write)
    (os : List Order) (i : ℕ) (e : Order)
    → i < length os → n ≡ x + i → now ≡ after_orders points d (take i os) →
    writes ≡ before ++ kept_orders points d x (take i os)
    → more ≡ writes ++ kept_of points now n (get_or os i e)
    → more ≡ before ++ kept_orders points d x (take (i + 1) os)
kept_orders_more points d now x n before writes more os i e less at state so_far is =
    let count : x + length (take i os) ≡ n = omega (arith, length-take-le i os (omega arith)) in
    is ∙ ap (λ front. front ++ kept_of points now n (get_or os i e)) so_far
    ∙ ap (λ s. before ++ kept_orders points d x (take i os) ++ kept_of points s n (get_or os i e)) state
    ∙ ap (λ m. before ++ kept_orders points d x (take i os) ++ kept_of points (after_orders points d (take i os))
    m (get_or os i e)) (sym count)
    ∙ append_assoc before (kept_orders points d x (take i os))
    (kept_of points (after_orders points d (take i os)) (x + length (take i os)) (get_or os i e))
    ∙ ap (λ k. before ++ k) (sym (kept_orders-push points d x (take i os) (get_or os i e))
    ∙ ap (kept_orders points d x) (sym (take_more os i e less)))
