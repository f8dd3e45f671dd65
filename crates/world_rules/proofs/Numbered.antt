-- A proxy's writes bear the numbers of their orders.
use Rattle.std.proofs.Common.{◌≡◌, ℕ, ◌+◌, zero, suc, Bool, true, false, List, [], ◌∷◌, ◌++◌, Option, Some, None, map}
use Rattle.std.proofs.Common.{drop, length, refl, sym, ◌∙◌, ap, arith}
use Rattle.std.proofs.lemmas.Bool.{false≢true, and_parts}
use Rattle.std.proofs.lemmas.List.{append-nil, length-map, map-append}
use Rattle.std.specs.Prelude.{slice_get, if◌then◌else◌}
use Rattle.std.specs.List.{list_all, enumerate_from}
use Rattle.message_types.specs.declared.vouchers.Order.{Order}
use Rattle.message_types.specs.declared.vouchers.Order.TheVariants as order
use Rattle.point_table.specs.declared.point.Point.{Point}
use Rattle.point_table.specs.declared.point.DeviceSizes.{DeviceSizes}
use Rattle.vouched_orders.specs.declared.vote.Vote.{Vote}
use Rattle.vouched_orders.specs.Vouching.{counts, counted, done}
use Rattle.field_device.specs.Places.{Places}
use Rattle.field_proxy.specs.declared.writes.Write.{Write}
use Rattle.field_proxy.specs.Writes.{is_own, can_write, kept, kept_of, kept_orders, after_order, order_of}
use Rattle.field_proxy.specs.Front.{Front, fresh, votes_with, after_vote}
use Rattle.field_proxy.specs.Happenings.{Happening, Changed, Polled, Vouched, front_with, front_after}
use Rattle.field_proxy.proofs.VoteLaws.{done_passes}
use Rattle.field_proxy.proofs.FrontLaws.{all_pass_push}
use Rattle.field_proxy.proofs.OrderLaws as laws
use Rattle.world_rules.specs.Plant.{numbered_order}

pub enumerate_from-append : {X : Type 0} (n : ℕ) (xs ys : List X) → enumerate_from n (xs ++ ys) ≡ enumerate_from n xs
    ++ enumerate_from (n + length xs) ys
enumerate_from-append n [] ys = let same : n ≡ n + 0 = omega arith in ap (λ (k : ℕ). enumerate_from k ys) same
enumerate_from-append {X} n (x ∷ xs) ys =
    let same : n + 1 + length xs ≡ n + suc (length xs) = omega arith in
    ap (λ (zs : List (ℕ × X)). (n, x) ∷ zs) (enumerate_from-append (n + 1) xs ys
    ∙ ap (λ (k : ℕ). enumerate_from (n + 1) xs ++ enumerate_from k ys) same)

-- each order that can be carried out is kept as one write under its number
kept_one : (client : ℕ) (d : Places) (x number raw : ℕ) (p : Option Point) → is_own client p ≡ true
    → map numbered_order (kept d x number raw p) ≡ (x, order.Write number raw) ∷ []
kept_one client d x number raw (Some p) own = refl
kept_one client d x number raw None own = absurd (false≢true own)

one_kept : (points : List Point) (client : ℕ) (d : Places) (x : ℕ) (o : Order) → can_write points client o ≡ true
    → map numbered_order (kept_of points d x o) ≡ (x, o) ∷ []
one_kept points client d x (order.Write number raw) can = kept_one client d x number raw (slice_get points number) can
one_kept points client d x (order.Notice n) can = absurd (false≢true can)

orders_kept : (points : List Point) (client : ℕ) (d : Places) (x : ℕ) (os : List Order) →
    list_all (can_write points client) os ≡ true
    → map numbered_order (kept_orders points d x os) ≡ enumerate_from x os
unfolding kept_orders
orders_kept points client d x [] all = refl
orders_kept points client d x (o ∷ os) all =
    let parts = and_parts (can_write points client o) (list_all (can_write points client) os) all in
    let next : suc x ≡ x + 1 = omega arith in
    map-append numbered_order (kept_of points d x o) (kept_orders points (after_order points d o) (suc x) os)
    ∙ ap (λ (front : List (ℕ × Order)). front
    ++ map numbered_order (kept_orders points (after_order points d o) (suc x) os))
    (one_kept points client d x o parts.0)
    ∙ ap (λ (rest : List (ℕ × Order)). (x, o) ∷ rest)
    (orders_kept points client (after_order points d o) (suc x) os parts.1 ∙ ap (λ (k : ℕ). enumerate_from k os) next)

-- what every state keeps to
record Numbered (s : Front) : Type 0 where
  numbers : map numbered_order s.writes ≡ enumerate_from 1 (map order_of s.writes)
  pass : list_all (λ (vote : Vote). can_write s.points s.client vote.voucher.order) s.votes ≡ true

all_dropped : {X : Type 0} (p : X → Bool) (n : ℕ) (xs : List X) → list_all p xs ≡ true → list_all p (drop n xs) ≡ true
all_dropped p zero xs e = e
all_dropped p (suc n) [] e = refl
all_dropped p (suc n) (x ∷ xs) e = all_dropped p n xs (and_parts (p x) (list_all p xs) e).1

counted_pass : (points : List Point) (client : ℕ) (votes : List Vote) (vote : Vote)
    → list_all (λ (vote : Vote). can_write points client vote.voucher.order) votes ≡ true
    → list_all (λ (vote : Vote). can_write points client vote.voucher.order)
    (votes ++ counted (can_write points client) client (vote ∷ [])) ≡ true
counted_pass points client votes vote all = by (counts (can_write points client) client vote) refl
  where
    by : (b : Bool) → counts (can_write points client) client vote ≡ b
        → list_all (λ (vote : Vote). can_write points client vote.voucher.order)
        (votes ++ (if b then vote ∷ [] else [])) ≡ true
    by true is = all_pass_push points client votes vote all (and_parts _ _ is).1
    by false is = ap (list_all (λ (vote : Vote). can_write points client vote.voucher.order)) (append-nil votes) ∙ all

vote_numbered : (s : Front) (vote : Vote) → Numbered s → Numbered (after_vote s vote)
vote_numbered s vote is =
    let pass = counted_pass s.points s.client s.votes vote is.pass in
    let orders : List Order = drop (length s.writes) (done s.n s.f (votes_with s vote)) in
    let can : list_all (can_write s.points s.client)
    (drop (length s.writes) (done s.n s.f (votes_with s vote))) ≡ true =
    all_dropped (can_write s.points s.client) (length s.writes) (done s.n s.f (votes_with s vote))
    (done_passes (can_write s.points s.client) s.n s.f (votes_with s vote) pass) in
    let more : List Write = kept_orders s.points s.places (length s.writes + 1) orders in
    let count : length s.writes + 1 ≡ 1 + length (map order_of s.writes) =
    let many : length (map order_of s.writes) ≡ length s.writes = length-map s.writes order_of in omega arith in
    record {
      numbers = map-append numbered_order s.writes more
          ∙ ap (λ (front : List (ℕ × Order)). front ++ map numbered_order more) is.numbers
          ∙ ap (λ (rest : List (ℕ × Order)). enumerate_from 1 (map order_of s.writes) ++ rest)
          (orders_kept s.points s.client s.places (length s.writes + 1) orders can
          ∙ ap (λ (k : ℕ). enumerate_from k orders) count)
          ∙ sym (enumerate_from-append 1 (map order_of s.writes) orders)
          ∙ ap (enumerate_from 1) (ap (λ (os : List Order). map order_of s.writes ++ os)
          (sym (laws.orders_kept s.points s.client s.places (length s.writes + 1) orders can))
          ∙ sym (map-append order_of s.writes more));
      pass = pass;
    }

all_numbered : (s : Front) (happenings : List Happening) → Numbered s → Numbered (front_after s happenings)
all_numbered s [] is = is
all_numbered s (Changed area place value ∷ rest) is = all_numbered (front_with s (Changed area place value))
    rest record { numbers = is.numbers; pass = is.pass }
all_numbered s (Polled room ∷ rest) is =
    all_numbered (front_with s (Polled room)) rest record { numbers = is.numbers; pass = is.pass }
all_numbered s (Vouched vote ∷ rest) is = all_numbered (after_vote s vote) rest (vote_numbered s vote is)

-- the writes with their numbers are their orders, numbered from 1 on
pub writes_are_numbered : (client n f : ℕ) (points : List Point) (sizes : DeviceSizes) (happenings : List Happening)
    → map numbered_order (front_after (fresh client n f points sizes) happenings).writes ≡ enumerate_from 1
    (map order_of (front_after (fresh client n f points sizes) happenings).writes)
writes_are_numbered client n f points sizes happenings =
    (all_numbered (fresh client n f points sizes) happenings record { numbers = refl; pass = refl }).numbers
