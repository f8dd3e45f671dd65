-- One executed update more: which value it changes, and whose list of changes grows.
use Rattle.std.proofs.Common.{◌≡◌, ◌≢◌, ◌<◌, ◌≤◌, ◌+◌, ◌==◌, ℕ, zero, suc, Bool, true, false, ◌&&◌, not}
use Rattle.std.proofs.Common.{if◌then◌else◌, List, [], ◌∷◌, ◌++◌, Option, Some, None, ℤ, length, length-append}
use Rattle.std.proofs.Common.{get_or, slice_get, slice_set, nat_lt, nat_le, nat_eq, filter, refl, sym, ◌∙◌}
use Rattle.std.proofs.Common.{ap, subst, inl, inr, ◌⊎◌, arith, append_assoc, append-nil, IsSomeAnd, IfSome, Result}
use Rattle.std.proofs.Common.{Ok, Err, OnOk, ◌↔◌}
use Rattle.std.specs.List.Sorted.{IsNonDecreasingBy}
use Rattle.std.proofs.lemmas.Option.{same_Some}
use Rattle.std.proofs.lemmas.Bool.{false≢true, cases_eq, cases_Bool, cond-false, ltb-false, lt-leb, ne_eqb}
use Rattle.std.proofs.lemmas.Bool.{eq-eqb, and_left, and_right}
use Rattle.std.proofs.lemmas.List.Elements.{filter-append}
use Rattle.std.proofs.lemmas.Bool.Decides.{Decides-int_eq}
use Rattle.message_types.specs.declared.updates.Op.{Op}
use Rattle.message_types.specs.declared.updates.Op.TheVariants as op
use Rattle.message_types.specs.declared.updates.Update.{Update}
use Rattle.point_table.specs.declared.point.Point.{Point}
use Rattle.point_table.specs.Point.{is_within}
use Rattle.point_table.specs.Table.{Table}
use Rattle.point_table.specs.declared.points.PointRefusal.{PointRefusal}
use Rattle.point_table.specs.declared.points.PointRefusal.TheVariants as refusal_of
use Rattle.alarm_rules.specs.Board.{is_raised_at}
use Rattle.master_points.specs.declared.effect.Effect.{Effect}
use Rattle.master_points.specs.declared.effect.Step.{Step}
use Rattle.master_points.specs.declared.effect.Step.TheVariants.{Keep, Read, Acknowledge}
use Rattle.master_points.specs.declared.plant.Plant.{Plant}
use Rattle.master_points.specs.Effects.{Site, State, settled, effect, from_proxy, from_screen, nothing, is_own_within}
use Rattle.master_points.specs.Orders.{AreOwned, site_of, start_of, state_after}
use Rattle.trend_archive.specs.declared.change.Changed.{Changed}
use Rattle.trend_archive.specs.declared.change.Changes.{Changes}
use Rattle.trend_archive.specs.declared.change.Reading.{Reading}
use Rattle.trend_archive.specs.Trends.{Archive, EarlierStays, IsTrend, all_changes, changes, changes_from, has_value}
use Rattle.trend_archive.specs.Trends.{is_between, news, noted, told, with_change}
use Rattle.master_points.proofs.EffectLaws.{own_within}

-- the state after one update more
state_after-push : (site : Site) (s : State) (us : List Update) (u : Update) →
    state_after site s (us ++ u ∷ []) ≡ settled (effect site (state_after site s us) u).step (state_after site s us)
state_after-push site s [] u = refl
state_after-push site s (w ∷ us) u = state_after-push site (settled (effect site s w).step s) us u

settled-points : (step : Step) (s : State) → (settled step s).table.points ≡ s.table.points
settled-points Keep s = refl
settled-points (Read p v) s = refl
settled-points (Acknowledge a) s = refl

state_after-points : (site : Site) (s : State) (us : List Update) →
    (state_after site s us).table.points ≡ s.table.points
state_after-points site s [] = refl
state_after-points site s (u ∷ us) = state_after-points site (settled (effect site s u).step s) us
    ∙ settled-points (effect site s u).step s

-- the changes by updates and by those after them
changes_from-append : (site : Site) (p x : ℕ) (s : State) (us more : List Update)
    → changes_from site p x s (us ++ more) ≡ changes_from site p x s us ++ changes_from site p (x + length us)
    (state_after site s us) more
changes_from-append site p x s [] more = let here : x ≡ x + 0 = omega arith in
    ap (λ (n : ℕ). changes_from site p n s more) here
changes_from-append site p x s (w ∷ us) more =
    let next : State = settled (effect site s w).step s in
    let first : List Changed = told p x (news s.table.points s.table.values w.client w.op) in
    let number : suc x + length us ≡ x + suc (length us) = omega arith in
    ap (λ (cs : List Changed). first ++ cs) (changes_from-append site p (suc x) next us more)
    ∙ (sym (append_assoc first (changes_from site p (suc x) next us)
    (changes_from site p (suc x + length us) (state_after site next us) more))
    ∙ ap (λ (n : ℕ). (first ++ changes_from site p (suc x) next us)
    ++ changes_from site p n (state_after site next us) more) number)

changes_from-push : (site : Site) (p x : ℕ) (s : State) (us : List Update) (u : Update)
    → changes_from site p x s (us ++ u ∷ []) ≡ changes_from site p x s us
    ++ told p (x + length us)
    (news (state_after site s us).table.points (state_after site s us).table.values u.client u.op)
changes_from-push site p x s us u =
    changes_from-append site p x s us (u ∷ [])
    ∙ ap (λ (cs : List Changed). changes_from site p x s us ++ cs)
    (append-nil (told p (x + length us)
    (news (state_after site s us).table.points (state_after site s us).table.values u.client u.op)))

-- the values with a reading that changes a point, or with none
values_with : Option Reading → List ℤ → List ℤ
values_with None vs = vs
values_with (Some r) vs = slice_set vs r.point r.value

slice_set-same : (vs : List ℤ) (p : ℕ) (v : ℤ) → slice_get vs p ≡ Some v → slice_set vs p v ≡ vs
slice_set-same [] p v at = refl
slice_set-same (w ∷ vs) zero v at = let same : w ≡ v = cc in ap (λ (x : ℤ). x ∷ vs) (sym same)
slice_set-same (w ∷ vs) (suc p) v at = ap (λ (xs : List ℤ). w ∷ xs) (slice_set-same vs p v at)

has_value-true : (v : ℤ) (o : Option ℤ) → has_value v o ≡ true → o ≡ Some v
has_value-true v None h = absurd (cc)
has_value-true v (Some w) h = ap (λ (x : ℤ). Some x) ((Decides-int_eq w v).0 h)

-- what `news` answers, by whether the reading is news
abbrev if_read : ℕ → ℤ → Bool → Option Reading
if_read p v b = if b then Some (record { point = p; value = v }) else None

read_values : (s : State) (p : ℕ) (v : ℤ) (own has : Bool) (e : Effect) → e.step ≡ Read p v →
    (has ≡ true → slice_set s.table.values p v ≡ s.table.values)
    → (settled (if own then e else nothing).step s).table.values ≡ values_with
    (if_read p v (own && not has)) s.table.values
unfolding values_with
read_values s p v false has e step same = refl
read_values s p v true true e step same = ap (λ (st : Step). (settled st s).table.values) step ∙ same refl
read_values s p v true false e step same = ap (λ (st : Step). (settled st s).table.values) step

proxy-values : (site : Site) (s : State) (client : ℕ) (o : Op) →
    (settled (from_proxy site s client o).step s).table.values ≡ values_with
    (news s.table.points s.table.values client o) s.table.values
unfolding values_with
proxy-values site s client (op.Reading p v) =
    read_values s p v (is_own_within client v (slice_get s.table.points p))
    (has_value v (slice_get s.table.values p)) _ refl
    (λ h. slice_set-same s.table.values p v (has_value-true v (slice_get s.table.values p) h))
proxy-values site s client (op.Set p v) = refl
proxy-values site s client (op.Ack a) = refl

either_kept : (s : State) (b : Bool) (x y : Effect) → (settled x.step s).table.values ≡ s.table.values →
    (settled y.step s).table.values ≡ s.table.values →
    (settled (if b then x else y).step s).table.values ≡ s.table.values
either_kept s true x y h g = h
either_kept s false x y h g = g

-- what a screen asks for changes no value
screen-values : (site : Site) (s : State) (client t : ℕ) (o : Op) →
    (settled (from_screen site s client t o).step s).table.values ≡ s.table.values
screen-values site s client t (op.Reading p v) = refl
screen-values site s client t (op.Set p v) = refl
screen-values site s client t (op.Ack a) = either_kept s (is_raised_at s.board.states a) _ _ refl refl

-- no point is a screen's own
not_own : (devices : ℕ) (ps : List Point) (p client : ℕ) (v : ℤ) → AreOwned devices ps → devices ≤ client →
    is_own_within client v (slice_get ps p) ≡ false
not_own devices [] p client v own le = refl
not_own devices (q ∷ ps) zero client v own le =
    let below : q.proxy < devices = own.0 in
    and_left (q.proxy == client) (is_within q v) (ne_eqb q.proxy client (omega arith))
not_own devices (q ∷ ps) (suc p) client v own le = not_own devices ps p client v own.1 le

no_news : (devices : ℕ) (ps : List Point) (vs : List ℤ) (client : ℕ) (o : Op) → AreOwned devices ps →
    devices ≤ client → news ps vs client o ≡ None
no_news devices ps vs client (op.Reading p v) own le =
    ap (λ (b : Bool). if_read p v (b && not (has_value v (slice_get vs p)))) (not_own devices ps p client v own le)
no_news devices ps vs client (op.Set p v) own le = refl
no_news devices ps vs client (op.Ack a) own le = refl

-- the values after an update are those before it with its news
values-step : (site : Site) (s : State) (u : Update) → AreOwned site.devices s.table.points →
    (settled (effect site s u).step s).table.values ≡ values_with (news s.table.points s.table.values u.client u.op)
    s.table.values
unfolding values_with
values-step site s u own = by (cases_Bool (nat_lt u.client site.devices))
  where
    split : (b : Bool) → nat_lt u.client site.devices ≡ b →
        (settled (effect site s u).step s).table.values ≡
        (settled (if b then from_proxy site s u.client u.op else from_screen site s u.client u.t u.op).step
        s).table.values
    split b e = ap (λ (x : Bool).
        (settled (if x then from_proxy site s u.client u.op else from_screen site s u.client u.t u.op).step
        s).table.values) e

    by : (nat_lt u.client site.devices ≡ true) ⊎ (nat_lt u.client site.devices ≡ false) →
        (settled (effect site s u).step s).table.values ≡ values_with
        (news s.table.points s.table.values u.client u.op) s.table.values
    by (inl e) = split true e ∙ proxy-values site s u.client u.op
    by (inr e) =
        split false e
        ∙ (screen-values site s u.client u.t u.op
        ∙ sym (ap (λ (r : Option Reading). values_with r s.table.values)
        (no_news site.devices s.table.points s.table.values u.client u.op own (ltb-false u.client site.devices e))))

with_change-here : (p : ℕ) (c : Changed) (lists : List (List Changed)) (l : List Changed) →
    slice_get lists p ≡ Some l → slice_get (with_change p c lists) p ≡ Some (l ++ c ∷ [])
with_change-here p c [] l at = absurd (cc)
with_change-here zero c (m ∷ ls) l at = let same : m ≡ l = cc in ap (λ (x : List Changed). Some (x ++ c ∷ [])) same
with_change-here (suc p) c (m ∷ ls) l at = with_change-here p c ls l at

with_change-other : (k p : ℕ) (c : Changed) (lists : List (List Changed)) → k ≢ p →
    slice_get (with_change k c lists) p ≡ slice_get lists p
with_change-other k p c [] ne = refl
with_change-other zero zero c (m ∷ ls) ne = absurd (ne refl)
with_change-other zero (suc p) c (m ∷ ls) ne = refl
with_change-other (suc k) zero c (m ∷ ls) ne = refl
with_change-other (suc k) (suc p) c (m ∷ ls) ne = with_change-other k p c ls (λ e. ne (ap suc e))

-- what a point's list is with one update more
noted-lists : (t : Archive) (r : Option Reading) (p : ℕ) (l : List Changed) → slice_get t.lists p ≡ Some l →
    slice_get (noted t r).lists p ≡ Some (l ++ told p (t.count + 1) r)
noted-lists t None p l at = at ∙ ap (λ (x : List Changed). Some x) (sym (append-nil l))
noted-lists t (Some r) p l at = by (cases_eq r.point p)
  where
    by : (r.point ≡ p) ⊎ (r.point ≡ p → ⊥) →
        slice_get (with_change r.point (record { number = t.count + 1; value = r.value }) t.lists) p ≡ Some
        (l ++ (if nat_eq r.point p then record { number = t.count + 1; value = r.value } ∷ [] else []))
    by (inl e) =
        ap (λ (k : ℕ). slice_get (with_change k (record { number = t.count + 1; value = r.value }) t.lists) p) e
        ∙ (with_change-here p (record { number = t.count + 1; value = r.value }) t.lists l at
        ∙ ap (λ (b : Bool). Some (l ++ (if b then record { number = t.count + 1; value = r.value } ∷ [] else [])))
        (sym (eq-eqb r.point p e)))
    by (inr ne) =
        with_change-other r.point p (record { number = t.count + 1; value = r.value }) t.lists ne
        ∙ (at ∙ (ap (λ (x : List Changed). Some x) (sym (append-nil l))
        ∙ ap (λ (b : Bool). Some (l ++ (if b then record { number = t.count + 1; value = r.value } ∷ [] else [])))
        (sym (ne_eqb r.point p ne))))

noted-values : (t : Archive) (r : Option Reading) → (noted t r).values ≡ values_with r t.values
unfolding values_with
noted-values t None = refl
noted-values t (Some r) = refl

noted-points : (t : Archive) (r : Option Reading) → (noted t r).points ≡ t.points
noted-points t None = refl
noted-points t (Some r) = refl

pub noted-count : (t : Archive) (r : Option Reading) → (noted t r).count ≡ t.count + 1
noted-count t None = refl
noted-count t (Some r) = refl

-- a trend with its news is the trend with one update more
pub trend-step : (plant : Plant) (screens : ℕ) (us : List Update) (u : Update) (old new : Archive) (r : Option Reading)
    → r ≡ news old.points old.values u.client u.op → new ≡ noted old r → IsTrend plant screens us old →
    IsTrend plant screens (us ++ u ∷ []) new
unfolding values_with
trend-step plant screens us u old new r is made t =
    subst (λ (a : Archive). IsTrend plant screens (us ++ u ∷ []) a) (sym made) (record {
      owned = t.owned;
      points = noted-points old r ∙ t.points;
      values = noted-values old r
          ∙ (ap (λ (vs : List ℤ). values_with r vs) t.values
          ∙ (ap (λ (x : Option Reading). values_with x
          (state_after (site_of plant screens) (start_of plant) us).table.values) its_news
          ∙ (sym (values-step (site_of plant screens) (state_after (site_of plant screens) (start_of plant) us) u owned)
          ∙ ap (λ (x : State). x.table.values)
          (sym (state_after-push (site_of plant screens) (start_of plant) us u)))));
      lists = λ p low.
          noted-lists old r p (all_changes plant screens p us) (t.lists p low)
          ∙ ap (λ (x : List Changed). Some x)
          (ap (λ (n : ℕ). all_changes plant screens p us ++ told p n r) number
          ∙ (ap (λ (x : Option Reading). all_changes plant screens p us ++ told p (1 + length us) x) its_news
          ∙ sym (changes_from-push (site_of plant screens) p 1 (start_of plant) us u)));
      count = noted-count old r ∙ counted;
    })
  where
    same_points : (state_after (site_of plant screens) (start_of plant) us).table.points ≡ plant.points
    same_points = state_after-points (site_of plant screens) (start_of plant) us

    its_news : r ≡ news (state_after (site_of plant screens) (start_of plant) us).table.points
        (state_after (site_of plant screens) (start_of plant) us).table.values u.client u.op
    its_news =
        is
        ∙ (ap (λ (ps : List Point). news ps old.values u.client u.op) (t.points ∙ sym same_points)
        ∙ ap (λ (vs : List ℤ). news (state_after (site_of plant screens) (start_of plant) us).table.points
        vs u.client u.op) t.values)

    owned : AreOwned (length plant.devices) (state_after (site_of plant screens) (start_of plant) us).table.points
    owned = subst (λ (ps : List Point). AreOwned (length plant.devices) ps) (sym same_points) t.owned

    number : old.count + 1 ≡ 1 + length us
    number = let c : old.count ≡ length us = t.count in omega arith

    counted : old.count + 1 ≡ length (us ++ u ∷ [])
    counted = let c : old.count ≡ length us = t.count in let whole : length (us ++ u ∷ []) ≡ length us + 1 =
        length-append us (u ∷ []) in omega arith

if_news : (ps : List Point) (p : ℕ) (v : ℤ) (own has : Bool) →
    (own ≡ true → IsSomeAnd (slice_get ps p) (λ q. is_within q v ≡ true))
    → IfSome (if_read p v (own && not has))
    (λ (r : Reading). IsSomeAnd (slice_get ps r.point) (λ q. is_within q r.value ≡ true))
if_news ps p v true true h = tt
if_news ps p v true false h = h refl
if_news ps p v false has h = tt

-- a reading that changes a point is of a value that the point can have
news-can : (ps : List Point) (vs : List ℤ) (client : ℕ) (o : Op) →
    IfSome (news ps vs client o) (λ (r : Reading). IsSomeAnd (slice_get ps r.point) (λ q. is_within q r.value ≡ true))
news-can ps vs client (op.Reading p v) =
    if_news ps p v (is_own_within client v (slice_get ps p)) (has_value v (slice_get vs p))
    (own_within client v (slice_get ps p))
news-can ps vs client (op.Set p v) = tt
news-can ps vs client (op.Ack a) = tt

pub possible : (ps : List Point) (vs : List ℤ) (client : ℕ) (o : Op) (r : Option Reading) → r ≡ news ps vs client o →
    IfSome r (λ (r : Reading). IsSomeAnd (slice_get ps r.point) (λ q. is_within q r.value ≡ true))
possible ps vs client o r is =
    subst (λ (x : Option Reading). IfSome x
    (λ (r : Reading). IsSomeAnd (slice_get ps r.point) (λ q. is_within q r.value ≡ true)))
    (sym is) (news-can ps vs client o)

-- numbers that don't fall, from a least one on
Rises : ℕ → List Changed → Type 0
Rises x [] = Unit {0}
Rises x (c ∷ cs) = (x ≤ c.number) × Rises c.number cs

rises-from : (x y : ℕ) (cs : List Changed) → x ≤ y → Rises y cs → Rises x cs
unfolding Rises
rises-from x y [] le h = tt
rises-from x y (c ∷ cs) le h = let first : y ≤ c.number = h.0 in (omega arith, h.1)

rises-told : (p x : ℕ) (r : Option Reading) (cs : List Changed) → Rises (suc x) cs → Rises x (told p x r ++ cs)
unfolding Rises
rises-told p x None cs h = rises-from x (suc x) cs (omega arith) h
rises-told p x (Some r) cs h = by (nat_eq r.point p)
  where
    by : (b : Bool) → Rises x ((if b then record { number = x; value = r.value } ∷ [] else []) ++ cs)
    by true = (omega arith, rises-from x (suc x) cs (omega arith) h)
    by false = rises-from x (suc x) cs (omega arith) h

changes_from-rises : (site : Site) (p x : ℕ) (s : State) (us : List Update) → Rises x (changes_from site p x s us)
unfolding Rises
changes_from-rises site p x s [] = tt
changes_from-rises site p x s (u ∷ us) = rises-told p x (news s.table.points s.table.values u.client u.op) _
    (changes_from-rises site p (suc x) (settled (effect site s u).step s) us)

at_least : (x : ℕ) (cs : List Changed) (j : ℕ) (d : Changed) → Rises x cs → j < length cs → x ≤ (get_or cs j d).number
unfolding Rises
at_least x [] j d h low = absurd (omega arith)
at_least x (c ∷ cs) zero d h low = h.0
at_least x (c ∷ cs) (suc j) d h low = let first : x ≤ c.number = h.0 in let rest : c.number ≤ (get_or cs j d).number =
    at_least c.number cs j d h.1 (omega arith) in omega arith

rising : (x : ℕ) (cs : List Changed) → Rises x cs → (i j : ℕ) (d : Changed) → i ≤ j → j < length cs →
    (get_or cs i d).number ≤ (get_or cs j d).number
unfolding Rises
rising x [] h i j d le low = absurd (omega arith)
rising x (c ∷ cs) h zero zero d le low = omega arith
rising x (c ∷ cs) h zero (suc j) d le low = at_least c.number cs j d h.1 (omega arith)
rising x (c ∷ cs) h (suc i) zero d le low = absurd (omega arith)
rising x (c ∷ cs) h (suc i) (suc j) d le low = rising c.number cs h.1 i j d (omega arith) (omega arith)

-- the numbers of a point's changes rise
pub all_changes-rise : (plant : Plant) (screens p : ℕ) (us : List Update) →
    IsNonDecreasingBy (λ (c : Changed). c.number) (all_changes plant screens p us)
all_changes-rise plant screens p us = rising 1 _ (changes_from-rises (site_of plant screens) p 1 (start_of plant) us)

-- none of the changes from a number on is before it
none_before : (first last x : ℕ) (cs : List Changed) → last < x → Rises x cs → filter (is_between first last) cs ≡ []
unfolding Rises
none_before first last x [] low h = refl
none_before first last x (c ∷ cs) low h =
    let here : x ≤ c.number = h.0 in
    cond-false (is_between first last c) (c ∷ filter (is_between first last) cs) (filter (is_between first last) cs)
    (and_right (nat_le first c.number) (nat_le c.number last) (lt-leb c.number last (omega arith)))
    ∙ none_before first last c.number cs (omega arith) h.1

-- what was executed later changes no answer
pub earlier-stays : EarlierStays
unfolding changes
earlier-stays plant screens p first last us more reached =
    let later : List Changed = changes_from (site_of plant screens) p (1 + length us)
    (state_after (site_of plant screens) (start_of plant) us) more in
    ap (filter (is_between first last)) (changes_from-append (site_of plant screens) p 1 (start_of plant) us more)
    ∙ (filter-append (is_between first last) (all_changes plant screens p us) later
    ∙ (ap (λ (cs : List Changed). filter (is_between first last) (all_changes plant screens p us) ++ cs)
    (none_before first last (1 + length us) later (omega arith)
    (changes_from-rises (site_of plant screens) p (1 + length us)
    (state_after (site_of plant screens) (start_of plant) us) more))
    ∙ append-nil (filter (is_between first last) (all_changes plant screens p us))))

-- what is found in a point's list
pub found-items : (plant : Plant) (screens : ℕ) (us : List Update) (t : Archive) (p first last : ℕ)
    (list found : List Changed)
    → IsTrend plant screens us t → p < length t.points → slice_get t.lists p ≡ Some list
    → (IsNonDecreasingBy (λ (c : Changed). c.number) list → found ≡ filter (is_between first last) list)
    → found ≡ changes plant screens p first last us
unfolding changes
found-items plant screens us t p first last list found is low at filtered =
    let there : p < length plant.points = subst (λ (ps : List Point). p < length ps) is.points low in
    let whole : list ≡ all_changes plant screens p us =
    same_Some list (all_changes plant screens p us) (sym at ∙ is.lists p there) in
    filtered (subst (λ (cs : List Changed). IsNonDecreasingBy (λ (c : Changed). c.number) cs) (sym whole)
    (all_changes-rise plant screens p us))
    ∙ ap (filter (is_between first last)) whole

pub same_question : (p first last : ℕ) (xs ys : List Changed) → xs ≡ ys →
    ◌≡◌ {A = Changes} (record { point = p; first = first; last = last; items = xs })
    (record { point = p; first = first; last = last; items = ys })
same_question p first last xs ys same = λ i. record { point = p; first = first; last = last; items = same i }

nowhere : (ps : List Point) (p : ℕ) (v : ℤ) → length ps ≤ p → IsSomeAnd (slice_get ps p) (λ q. is_within q v ≡ true) → ⊥
nowhere [] p v past h = h
nowhere (q ∷ ps) zero v past h = absurd (omega arith)
nowhere (q ∷ ps) (suc p) v past h = nowhere ps p v (omega arith) h

outside : (o : Option Point) (v : ℤ) → IsSomeAnd o (λ q. is_within q v ≡ false) →
    IsSomeAnd o (λ q. is_within q v ≡ true) → ⊥
outside None v off on = on
outside (Some q) v off on = false≢true (sym off ∙ on)

-- a reading that a point can have is set
set_done : (table new : Table) (p : ℕ) (v : ℤ) (result : Result (Unit {0}) PointRefusal)
    → IsSomeAnd (slice_get table.points p) (λ q. is_within q v ≡ true)
    → OnOk result (new ≡ record { points = table.points; values = slice_set table.values p v })
    → ((result ≡ Err refusal_of.NoPoint) ↔ (length table.points ≤ p))
    → ((result ≡ Err refusal_of.OutOfRange) ↔ IsSomeAnd (slice_get table.points p) (λ q. is_within q v ≡ false))
    → new ≡ record { points = table.points; values = slice_set table.values p v }
set_done table new p v (Ok u) can done no_point out = done
set_done table new p v (Err refusal_of.NoPoint) can done no_point out =
    absurd (nowhere table.points p v (no_point.0 refl) can)
set_done table new p v (Err refusal_of.OutOfRange) can done no_point out =
    absurd (outside (slice_get table.points p) v (out.0 refl) can)

noted_parts : (table new : Table) (lists new_lists : List (List Changed)) (count : ℕ) (r : Reading)
    → new ≡ record { points = table.points; values = slice_set table.values r.point r.value }
    → new_lists ≡ with_change r.point (record { number = count + 1; value = r.value }) lists
    → ◌≡◌ {A = Archive} (record { points = new.points; values = new.values; lists = new_lists; count = count + 1 })
    (noted (record { points = table.points; values = table.values; lists = lists; count = count }) (Some r))
noted_parts table new lists new_lists count r same added =
    λ i. record { points = (same i).points; values = (same i).values; lists = added i; count = count + 1 }

-- the parts of a trend after a reading that changes a point
pub noted-some : (table new : Table) (lists given new_lists : List (List Changed)) (count : ℕ) (old : Archive) (p : ℕ)
    (v set_to told_as : ℤ) (result : Result (Unit {0}) PointRefusal)
    → ◌≡◌ {A = Archive} (record { points = table.points; values = table.values; lists = lists; count = count }) old
    → IsSomeAnd (slice_get old.points p) (λ q. is_within q v ≡ true)
    → OnOk result (new ≡ record { points = table.points; values = slice_set table.values p set_to })
    → ((result ≡ Err refusal_of.NoPoint) ↔ (length table.points ≤ p))
    → ((result ≡ Err refusal_of.OutOfRange) ↔ IsSomeAnd (slice_get table.points p) (λ q. is_within q set_to ≡ false))
    → new_lists ≡ with_change p (record { number = count + 1; value = told_as }) given
    → given ≡ lists → set_to ≡ v → told_as ≡ v
    → ◌≡◌ {A = Archive} (record { points = new.points; values = new.values; lists = new_lists; count = count + 1 })
    (noted old (Some (record { point = p; value = v })))
noted-some table new lists given new_lists count old p v set_to told_as result view can done no_point out added
    same_lists same_set same_told =
    let own : IsSomeAnd (slice_get table.points p) (λ q. is_within q v ≡ true) =
    subst (λ (a : Archive). IsSomeAnd (slice_get a.points p) (λ q. is_within q v ≡ true)) (sym view) can in
    let here : IsSomeAnd (slice_get table.points p) (λ q. is_within q set_to ≡ true) =
    subst (λ (x : ℤ). IsSomeAnd (slice_get table.points p) (λ q. is_within q x ≡ true)) (sym same_set) own in
    let values : new ≡ record { points = table.points; values = slice_set table.values p v } =
    subst (λ (x : ℤ). new ≡ record { points = table.points; values = slice_set table.values p x }) same_set
    (set_done table new p set_to result here done no_point out) in
    let grown : new_lists ≡ with_change p (record { number = count + 1; value = v }) lists =
    subst (λ (x : ℤ). new_lists ≡ with_change p (record { number = count + 1; value = x }) lists) same_told
    (subst (λ (ls : List (List Changed)). new_lists ≡ with_change p (record { number = count + 1; value = told_as })
    ls) same_lists added) in
    noted_parts table new lists new_lists count (record { point = p; value = v }) values grown
    ∙ ap (λ (a : Archive). noted a (Some (record { point = p; value = v }))) view

pub same_lists : (points : List Point) (values : List ℤ) (count : ℕ) (xs ys : List (List Changed)) → xs ≡ ys
    → ◌≡◌ {A = Archive} (record { points = points; values = values; lists = xs; count = count })
    (record { points = points; values = values; lists = ys; count = count })
same_lists points values count xs ys same =
    λ i. record { points = points; values = values; lists = same i; count = count }
