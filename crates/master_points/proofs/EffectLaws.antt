-- An update's effect can be carried out and speaks to clients that are there alone: each case of the definition
-- is looked at, and a choice between two effects keeps what holds of both.
use Rattle.std.proofs.Common.{◌≡◌, ◌<◌, ◌+◌, ◌-◌, ℕ, zero, suc, List, [], ◌∷◌, ◌++◌, length, drop, get_or, refl, sym}
use Rattle.std.proofs.Common.{◌∙◌, ap, subst, arith, append_assoc, add-one, ◌≤◌, Bool, true, false, if◌then◌else◌}
use Rattle.std.proofs.Common.{◌&&◌, Option, Some, None, slice_get, ℤ, nat_lt, position, IsSomeAnd, ◌==◌}
use Rattle.std.proofs.lemmas.Bool.{lt-ltb}
use Rattle.message_types.specs.declared.vouchers.Order.{Order}
use Rattle.alarm_rules.specs.declared.alarms.Change.{Change}
use Rattle.master_points.specs.declared.effect.Addressed.{Addressed}
use Rattle.message_types.specs.declared.updates.Op.{Op}
use Rattle.message_types.specs.declared.updates.Op.TheVariants as op
use Rattle.message_types.specs.declared.updates.Update.{Update}
use Rattle.point_table.specs.declared.point.Point.{Point}
use Rattle.point_table.specs.Point.{is_within, is_writable, raw_of}
use Rattle.alarm_rules.specs.Board.{is_raised_at}
use Rattle.master_points.specs.declared.effect.Effect.{Effect}
use Rattle.master_points.specs.declared.effect.Verdict.{Verdict}
use Rattle.master_points.specs.declared.effect.Verdict.TheVariants as verdict
use Rattle.master_points.specs.Effects.{Site, State, IsPossible, to_each, change_orders, change_notice, is_own_within}
use Rattle.master_points.specs.Effects.{nothing, from_proxy, from_screen, effect, verdict_on, set_orders, denies}
use Rattle.master_points.specs.Effects.{unless_denied, if_in_range}
use Rattle.master_points.specs.Lists.{AreAddressed}
use Rattle.master_points.specs.Orders.{AreOwned, Held}
use Rattle.std.specs.List.{position_or_len}
use Rattle.std.proofs.lemmas.List.Sums.{position_or_len_is}
use Rattle.std.proofs.lemmas.Grind.{common_steps}

-- one client more has the order
pub to_each-step : (os new : List Addressed) (first place count : ℕ) (o : Order) → place < count →
    new ≡ os ++ record { client = first + place; order = o } ∷ []
    → new ++ to_each (first + (place + 1)) (count - (place + 1)) o ≡ os ++ to_each (first + place) (count - place) o
to_each-step os new first place count o low is =
    let left : count - place ≡ suc (count - (place + 1)) = omega arith in
    let next : first + (place + 1) ≡ suc (first + place) = omega arith in
    ap (λ (x : List Addressed). x ++ to_each (first + (place + 1)) (count - (place + 1)) o) is
    ∙ (append_assoc os _ _
    ∙ (ap (λ (n : ℕ). os ++ record { client = first + place; order = o } ∷ to_each n (count - (place + 1)) o) next
    ∙ ap (λ (n : ℕ). os ++ to_each (first + place) n o) (sym left)))

-- one change more is told
pub change_orders-step : (site : Site) (os new : List Addressed) (cs : List Change) (i : ℕ) (c : Change) →
    i < length cs → c ≡ get_or cs i c → new ≡ os ++ to_each site.devices site.screens (change_notice c)
    → new ++ change_orders site (drop (i + 1) cs) ≡ os ++ change_orders site (drop i cs)
change_orders-step site os new cs i c low at is =
    ap (λ (x : List Addressed). x ++ change_orders site (drop (i + 1) cs)) is
    ∙ (append_assoc os _ _ ∙ ap (λ (x : List Addressed). os ++ x) (split cs i c low at))
  where
    split : (cs : List Change) (i : ℕ) (c : Change) → i < length cs → c ≡ get_or cs i c →
        to_each site.devices site.screens (change_notice c)
        ++ change_orders site (drop (i + 1) cs) ≡ change_orders site (drop i cs)
    split [] i c low at = absurd (omega arith)
    split (d ∷ cs) zero c low at =
        ap (λ (x : Change). to_each site.devices site.screens (change_notice x) ++ change_orders site cs) at
    split (d ∷ cs) (suc i) c low at = rw (add-one (suc i)) (rw (add-one i) at (split cs i c (omega arith) at))

and_right : (a b : Bool) → (a && b) ≡ true → b ≡ true
and_right true b h = h
and_right false b h = absurd (cc)

pub own_within : (client : ℕ) (v : ℤ) (o : Option Point) → is_own_within client v o ≡ true →
    IsSomeAnd o (λ q. is_within q v ≡ true)
own_within client v None h = absurd (cc)
own_within client v (Some p) h = and_right (p.proxy == client) (is_within p v) h

if_own : (s : State) (p : ℕ) (v : ℤ) (b : Bool) (e : Effect) → (b ≡ true → IsPossible s e.step) →
    IsPossible s (if b then e else nothing).step
if_own s p v true e h = h refl
if_own s p v false e h = tt

from_proxy-possible : (site : Site) (s : State) (client : ℕ) (o : Op) → IsPossible s (from_proxy site s client o).step
from_proxy-possible site s client (op.Reading p v) =
    if_own s p v (is_own_within client v (slice_get s.table.points p)) _
    (own_within client v (slice_get s.table.points p))
from_proxy-possible site s client (op.Set p v) = tt
from_proxy-possible site s client (op.Ack a) = tt

if_so : (s : State) (b : Bool) (x y : Effect) → (b ≡ true → IsPossible s x.step) → IsPossible s y.step →
    IsPossible s (if b then x else y).step
if_so s true x y h g = h refl
if_so s false x y h g = g

from_screen-possible : (site : Site) (s : State) (client t : ℕ) (o : Op) →
    IsPossible s (from_screen site s client t o).step
from_screen-possible site s client t (op.Reading p v) = tt
from_screen-possible site s client t (op.Set p v) = tt
from_screen-possible site s client t (op.Ack a) = if_so s (is_raised_at s.board.states a) _ _ (λ h. h) tt

either_step : (s : State) (b : Bool) (x y : Effect) → IsPossible s x.step → IsPossible s y.step →
    IsPossible s (if b then x else y).step
either_step s true x y h g = h
either_step s false x y h g = g

-- what an update changes can be changed
pub effect-possible : (site : Site) (s : State) (u : Update) → IsPossible s (effect site s u).step
effect-possible site s u = either_step s (nat_lt u.client site.devices) _ _ (from_proxy-possible site s u.client u.op)
    (from_screen-possible site s u.client u.t u.op)

AreAddressed-append : (n : ℕ) (xs ys : List Addressed) → AreAddressed n xs → AreAddressed n ys →
    AreAddressed n (xs ++ ys)
AreAddressed-append n [] ys h g = g
AreAddressed-append n (x ∷ xs) ys h g = (h.0, AreAddressed-append n xs ys h.1 g)

to_each-addressed : (n first count : ℕ) (o : Order) → first + count ≤ n → AreAddressed n (to_each first count o)
to_each-addressed n first zero o h = tt
to_each-addressed n first (suc count) o h = (omega arith, to_each-addressed n (suc first) count o (omega arith))

change_orders-addressed : (n : ℕ) (site : Site) (cs : List Change) → site.devices + site.screens ≤ n →
    AreAddressed n (change_orders site cs)
change_orders-addressed n site [] h = tt
change_orders-addressed n site (c ∷ cs) h =
    AreAddressed-append n _ _ (to_each-addressed n site.devices site.screens (change_notice c) h)
    (change_orders-addressed n site cs h)

either_orders : (n : ℕ) (b : Bool) (x y : Effect) → AreAddressed n x.orders → AreAddressed n y.orders →
    AreAddressed n (if b then x else y).orders
either_orders n true x y h g = h
either_orders n false x y h g = g

from_proxy-addressed : (n : ℕ) (site : Site) (s : State) (client : ℕ) (o : Op) → site.devices + site.screens ≤ n →
    AreAddressed n (from_proxy site s client o).orders
from_proxy-addressed n site s client (op.Reading p v) h =
    either_orders n (is_own_within client v (slice_get s.table.points p)) _ _ (change_orders-addressed n site _ h) tt
from_proxy-addressed n site s client (op.Set p v) h = tt
from_proxy-addressed n site s client (op.Ack a) h = tt

-- a verdict writes only to a proxy that is there
WritesBelow : ℕ → Verdict → Type 0
WritesBelow n (verdict.Write proxy raw) = proxy < n
WritesBelow n _ = Unit {0}

set_orders-addressed : (n client t number : ℕ) (v : Verdict) → client < n → WritesBelow n v →
    AreAddressed n (set_orders client t number v)
unfolding WritesBelow
set_orders-addressed n client t number verdict.NoPoint h w = (h, tt)
set_orders-addressed n client t number verdict.NotWritable h w = (h, tt)
set_orders-addressed n client t number verdict.OutOfRange h w = (h, tt)
set_orders-addressed n client t number (verdict.Denied i) h w = (h, tt)
set_orders-addressed n client t number (verdict.Write proxy raw) h w = (w, (h, tt))

unless_denied-below : (n : ℕ) (p : Point) (raw : ℕ) (o : Option ℕ) → p.proxy < n → WritesBelow n (unless_denied p raw o)
unfolding WritesBelow
unless_denied-below n p raw (Some i) h = tt
unless_denied-below n p raw None h = h

if_in_range-below : (n : ℕ) (site : Site) (s : State) (number : ℕ) (v : ℤ) (p : Point) (o : Option ℕ) → p.proxy < n →
    WritesBelow n (if_in_range site s number v p o)
unfolding WritesBelow
if_in_range-below n site s number v p None h = tt
if_in_range-below n site s number v p (Some raw) h =
    unless_denied-below n p raw (position (denies s number v) site.interlocks) h

either_verdict : (n : ℕ) (b : Bool) (x y : Verdict) → WritesBelow n x → WritesBelow n y →
    WritesBelow n (if b then x else y)
either_verdict n true x y h g = h
either_verdict n false x y h g = g

none_written : (n : ℕ) → WritesBelow n verdict.NotWritable
unfolding WritesBelow
none_written n = tt

verdict_on-below : (n devices : ℕ) (site : Site) (s : State) (number : ℕ) (v : ℤ) (o : Option Point) → devices ≤ n →
    ((p : Point) → o ≡ Some p → p.proxy < devices) → WritesBelow n (verdict_on site s number v o)
unfolding WritesBelow
verdict_on-below n devices site s number v None h own = tt
verdict_on-below n devices site s number v (Some p) h own =
    let below : p.proxy < devices = own p refl in
    either_verdict n (is_writable p.area) _ _ (if_in_range-below n site s number v p (raw_of p v) (omega arith))
    (none_written n)

owned_at : (devices : ℕ) (ps : List Point) (i : ℕ) (p : Point) → AreOwned devices ps →
    slice_get ps i ≡ Some p → p.proxy < devices
owned_at devices [] i p h at = absurd (cc)
owned_at devices (q ∷ ps) zero p h at = let same : q ≡ p = cc in subst (λ (x : Point). x.proxy < devices) same h.0
owned_at devices (q ∷ ps) (suc i) p h at = owned_at devices ps i p h.1 at

from_screen-addressed : (n : ℕ) (site : Site) (s : State) (client t : ℕ) (o : Op) → client < n → site.devices ≤ n →
    AreOwned site.devices s.table.points → AreAddressed n (from_screen site s client t o).orders
from_screen-addressed n site s client t (op.Reading p v) low h own = (low, tt)
from_screen-addressed n site s client t (op.Set p v) low h own =
    set_orders-addressed n client t p _ low (verdict_on-below n site.devices site s p v (slice_get s.table.points p) h
    (λ q at. owned_at site.devices s.table.points p q own at))
from_screen-addressed n site s client t (op.Ack a) low h own =
    either_orders n (is_raised_at s.board.states a) _ _ (low, tt) (low, tt)

-- each order of an update is for a client that is there
pub effect-addressed : (n : ℕ) (site : Site) (s : State) (u : Update) → n ≡ site.devices + site.screens →
    u.client < n → AreOwned site.devices s.table.points → AreAddressed n (effect site s u).orders
effect-addressed n site s u all low own =
    either_orders n (nat_lt u.client site.devices) _ _ (from_proxy-addressed n site s u.client u.op (omega arith))
    (from_screen-addressed n site s u.client u.t u.op low (omega arith) own)

-- the same of what a master holds
pub orders-addressed : (h : Held) (u : Update) (n : ℕ) (orders : List Addressed) (e : Effect) →
    e ≡ effect h.site h.state u → orders ≡ e.orders → n ≡ h.site.devices + h.site.screens
    → u.client < h.site.devices + h.site.screens → AreOwned h.site.devices h.state.table.points → AreAddressed n orders
orders-addressed h u n orders e is same all low own =
    subst (λ (x : List Addressed). AreAddressed n x) (sym (same ∙ ap (λ (x : Effect). x.orders) is))
    (effect-addressed n h.site h.state u all (omega arith) own)

pub step-possible : (h : Held) (u : Update) (e : Effect) (s : State) → e ≡ effect h.site h.state u →
    s ≡ h.state → IsPossible s e.step
step-possible h u e s is same =
    subst (λ (x : State). IsPossible x e.step) (sym same)
    (subst (λ (x : Effect). IsPossible h.state x.step) (sym is) (effect-possible h.site h.state u))

lt_false : (n : ℕ) → nat_lt n n ≡ false
lt_false n = grind (arith, common_steps)

-- the first that passes is at this place
pub position-at : {X : Type 0} (p : X → Bool) (xs : List X) (i : ℕ) (d : X) → i < length xs →
    ((k : ℕ) → k < i → p (get_or xs k d) ≡ false) → p (get_or xs i d) ≡ true → Some i ≡ position p xs
position-at p xs i d low before on =
    let at : position_or_len p xs ≡ i = position_or_len_is p xs i d (omega arith) before (λ _. on) in
    rw at (rw (lt-ltb i (length xs) low) refl)

-- none passes
pub position-nowhere : {X : Type 0} (p : X → Bool) (xs : List X) →
    ((k : ℕ) (d : X) → k < length xs → p (get_or xs k d) ≡ false) → None ≡ position p xs
position-nowhere p [] none = refl
position-nowhere p (x ∷ xs) none =
    let at : position_or_len p (x ∷ xs) ≡ length (x ∷ xs) = position_or_len_is p (x ∷ xs) (length (x ∷ xs)) x
    (omega arith) (λ k h. none k x h) (λ h. absurd (omega arith)) in
    rw at (rw (lt_false (length (x ∷ xs))) refl)
