-- Why the demands kept tell how long a master waits. A moment more adds its ticks to the wait, where something lacked before,
-- and else the wait begins with it; the same goes for a demand more. A demand for the same as the last one adds nothing, since
-- where it lacks something the last one does. And a demand of which all is ordered may go, since it stays so.
use Rattle.std.proofs.Common.{◌≡◌, ℕ, zero, suc, ◌+◌, ◌-◌, ◌<◌, ◌≤◌, Bool, true, false, cond, ◌&&◌, ◌||◌, List, []}
use Rattle.std.proofs.Common.{◌∷◌, ◌++◌, filter, reverse, length, get_or, nat_eq, nat_le, nat_lt, refl, sym, ◌∙◌, ap}
use Rattle.std.proofs.Common.{subst, inl, inr, ◌⊎◌, arith}
use Rattle.std.specs.List.{list_any, list_all}
use Rattle.std.specs.Str.{bytes_eq}
use Rattle.std.proofs.lemmas.Bool.{leb-true, le-leb, lt-ltb, ltb-true, eqb-true, eq-eqb, ne_eqb, and_parts, and_from, or_cases}
use Rattle.std.proofs.lemmas.Bool.{or_left, or_right, true≢false, cond-true, cond-false}
use Rattle.std.proofs.lemmas.Slice.Eq.{bytes_eq-Decides}
use Rattle.std.proofs.lemmas.List.{reverse-append, length-append}
use Rattle.std.proofs.lemmas.List.Elements.{filter-append}
use Rattle.std.proofs.lemmas.List.Folds.{list_any-append, list_all-append}
use Rattle.quorum_sets.specs.Masters.{numbers_below}
use Rattle.quorum_sets.proofs.Numbered.{below_one_more, below_none_at}
use Rattle.protocol_rules.specs.Group.{Group}
use Rattle.protocol_rules.specs.Patience.{Moment, ticks_in, while_such, from_first, stretch, lacks, wait}
use Rattle.leader_wait.specs.declared.demands.Demand.{Demand}
use Rattle.leader_wait.specs.Waiting.{Waiting, IsWaitOf, IsMoment, IsInTime, Rises, TellsBelow, is_unmet, first_since}
use Rattle.leader_wait.specs.Waiting.{ends_with, noted}

passes : (b : Bool) → (b || false) ≡ true → b ≡ true
passes true e = refl
passes false e = e

-- tests of the numbers below n, where one passes as another does
any_implied : (p r : ℕ → Bool) (n : ℕ) → ((j : ℕ) → j < n → p j ≡ true → r j ≡ true) →
    list_any p (numbers_below n) ≡ true → list_any r (numbers_below n) ≡ true
any_implied p r zero implied any = absurd (true≢false (sym any ∙ ap (list_any p) below_none_at))
any_implied p r (suc n) implied any =
    ap (list_any r) one_more ∙ list_any-append r (numbers_below n) (n ∷ [])
    ∙ by (or_cases (list_any p (numbers_below n)) (p n || false)
    (sym (list_any-append p (numbers_below n) (n ∷ [])) ∙ sym (ap (list_any p) one_more) ∙ any))
    (any_implied p r n (λ j lt. implied j (omega arith)))
  where
    one_more : numbers_below (suc n) ≡ numbers_below n ++ n ∷ []
    one_more = ap numbers_below (let e : suc n ≡ n + 1 = omega arith in e) ∙ below_one_more n

    by : (list_any p (numbers_below n) ≡ true) ⊎ ((p n || false) ≡ true) →
        (list_any p (numbers_below n) ≡ true → list_any r (numbers_below n) ≡ true) →
        (list_any r (numbers_below n) || (r n || false)) ≡ true
    by (inl before) more = or_left (list_any r (numbers_below n)) (r n || false) (more before)
    by (inr here) more = or_right (list_any r (numbers_below n)) (r n || false)
        (or_left (r n) false (implied n (omega arith) (passes (p n) here)))

any_same : (p r : ℕ → Bool) (n : ℕ) → ((j : ℕ) → j < n → p j ≡ r j) →
    list_any p (numbers_below n) ≡ list_any r (numbers_below n)
any_same p r n same = by (list_any p (numbers_below n)) (list_any r (numbers_below n)) refl refl
  where
    by : (a b : Bool) → list_any p (numbers_below n) ≡ a → list_any r (numbers_below n) ≡ b → a ≡ b
    by true true e h = refl
    by false false e h = refl
    by true false e h =
        absurd (true≢false (sym (any_implied p r n (λ j lt passes. sym (same j lt) ∙ passes) e) ∙ h))
    by false true e h =
        absurd (true≢false (sym (any_implied r p n (λ j lt passes. same j lt ∙ passes) h) ∙ e))

-- more may be ordered: what lacks something then lacks something now
pub fewer_unmet : (n : ℕ) (ordered later : ℕ → ℕ) (w : Demand) → Rises n ordered later →
    is_unmet n later w ≡ true → is_unmet n ordered w ≡ true
fewer_unmet n ordered later w rises =
    any_implied (λ j. nat_lt (later j) (get_or w.eligible.numbers j 0))
    (λ j. nat_lt (ordered j) (get_or w.eligible.numbers j 0)) n
    (λ j lt passes.
    let more : ordered j ≤ later j = rises j lt in
    let less : later j < get_or w.eligible.numbers j 0 = ltb-true (later j) (get_or w.eligible.numbers j 0) passes in
    lt-ltb (ordered j) (get_or w.eligible.numbers j 0) (omega arith))

pub unmet_told : (n : ℕ) (numbers : List ℕ) (ordered : ℕ → ℕ) (w : Demand) → TellsBelow n numbers ordered →
    is_unmet n (λ j. get_or numbers j 0) w ≡ is_unmet n ordered w
unmet_told n numbers ordered w told =
    any_same (λ j. nat_lt (get_or numbers j 0) (get_or w.eligible.numbers j 0))
    (λ j. nat_lt (ordered j) (get_or w.eligible.numbers j 0)) n
    (λ j lt. ap (λ x. nat_lt x (get_or w.eligible.numbers j 0)) (told j lt))

-- a demand and a moment at which as much is eligible
unmet_lacks : (g : Group) (later : ℕ → ℕ) (w : Demand) (m : Moment) →
    ((j : ℕ) → j < g.n → get_or w.eligible.numbers j 0 ≡ get_or m.eligible j 0) → is_unmet g.n later w ≡ lacks g later m
unmet_lacks g later w m same =
    any_same (λ j. nat_lt (later j) (get_or w.eligible.numbers j 0)) (λ j. nat_lt (later j) (get_or m.eligible j 0)) g.n
    (λ j lt. ap (nat_lt (later j)) (same j lt))

-- from the first on that passes
from_first-none : {X : Type 0} (p : X → Bool) (xs : List X) → list_any p xs ≡ false → from_first p xs ≡ []
from_first-none p [] none = refl
from_first-none {X} p (x ∷ rest) none = by (p x) none (from_first-none p rest)
  where
    by : (b : Bool) → (b || list_any p rest) ≡ false → (list_any p rest ≡ false → from_first p rest ≡ []) →
        cond b (x ∷ rest) (from_first p rest) ≡ []
    by true e more = absurd (true≢false e)
    by false e more = more e

-- those that pass a test that fewer pass, of those from the first on that passes a test that more pass
first_again : {X : Type 0} (p r : X → Bool) (xs : List X) → ((x : X) → r x ≡ true → p x ≡ true) →
    from_first r (from_first p xs) ≡ from_first r xs
first_again p r [] implied = refl
first_again {X} p r (x ∷ rest) implied = by (p x) (r x) refl refl (first_again p r rest implied)
  where
    by : (a b : Bool) → p x ≡ a → r x ≡ b → from_first r (from_first p rest) ≡ from_first r rest →
        from_first r (cond a (x ∷ rest) (from_first p rest)) ≡ cond (r x) (x ∷ rest) (from_first r rest)
    by true b e h more = refl
    by false true e h more = absurd (true≢false (sym (implied x h) ∙ e))
    by false false e h more = more ∙ sym (cond-false (r x) (x ∷ rest) (from_first r rest) h)

any_again : {X : Type 0} (p r : X → Bool) (xs : List X) → ((x : X) → r x ≡ true → p x ≡ true) →
    list_any r (from_first p xs) ≡ list_any r xs
any_again p r [] implied = refl
any_again {X} p r (x ∷ rest) implied = by (p x) (r x) refl refl (any_again p r rest implied)
  where
    by : (a b : Bool) → p x ≡ a → r x ≡ b → list_any r (from_first p rest) ≡ list_any r rest →
        list_any r (cond a (x ∷ rest) (from_first p rest)) ≡ (r x || list_any r rest)
    by true b e h more = refl
    by false true e h more = absurd (true≢false (sym (implied x h) ∙ e))
    by false false e h more = more ∙ sym (ap (λ b. b || list_any r rest) h)

from_first-same : {X : Type 0} (p r : X → Bool) → ((x : X) → p x ≡ r x) → (xs : List X) →
    from_first p xs ≡ from_first r xs
from_first-same p r same xs = λ i. from_first (λ x. same x i) xs

-- the ticks of a moment
abbrev ticks_at : Moment → ℕ
ticks_at m = cond m.is_tick 1 0

ticks-push : (moments : List Moment) (m : Moment) → ticks_in (moments ++ m ∷ []) ≡ ticks_in moments + ticks_at m
ticks-push moments m =
    ap length (filter-append (λ e. e.is_tick) moments (m ∷ []))
    ∙ length-append (filter (λ e. e.is_tick) moments) (filter (λ e. e.is_tick) (m ∷ []))
    ∙ ap (λ k. ticks_in moments + k) (by m.is_tick)
  where
    by : (b : Bool) → length (cond b (m ∷ []) []) ≡ cond b 1 0
    by true = refl
    by false = refl

-- a moment more at the end of a stretch
pub stretch-push : (v : ℕ) (moments : List Moment) (m : Moment) →
    stretch v (moments ++ m ∷ []) ≡ cond (nat_eq m.view v) (stretch v moments ++ m ∷ []) []
stretch-push v moments m =
    ap (λ ms. reverse (while_such (λ e. nat_eq e.view v) ms)) (reverse-append moments (m ∷ [])) ∙ by (nat_eq m.view v)
  where
    earlier : List Moment
    earlier = while_such (λ e. nat_eq e.view v) (reverse moments)

    by : (b : Bool) → reverse (cond b (m ∷ earlier) []) ≡ cond b (reverse earlier ++ m ∷ []) []
    by true = reverse-append (m ∷ []) earlier
    by false = refl

-- where something lacked before, a moment more adds its ticks; else the wait begins with it
first-push : (r : Moment → Bool) (ms : List Moment) (m : Moment) →
    ticks_in (from_first r (ms ++ m ∷ [])) ≡ cond (list_any r ms) (ticks_in (from_first r ms) + ticks_at m)
    (cond (r m) (ticks_at m) 0)
first-push r [] m = by (r m)
  where
    one : (t : Bool) → length (cond t (m ∷ []) []) ≡ cond t 1 0
    one true = refl
    one false = refl

    by : (b : Bool) → ticks_in (cond b (m ∷ []) []) ≡ cond b (ticks_at m) 0
    by true = one m.is_tick
    by false = refl
first-push r (x ∷ rest) m = by (r x) (first-push r rest m)
  where
    by : (b : Bool) → ticks_in (from_first r (rest ++ m ∷ [])) ≡ cond (list_any r rest)
        (ticks_in (from_first r rest) + ticks_at m) (cond (r m) (ticks_at m) 0) →
        ticks_in (cond b (x ∷ rest ++ m ∷ []) (from_first r (rest ++ m ∷ []))) ≡ cond (b || list_any r rest)
        (ticks_in (cond b (x ∷ rest) (from_first r rest)) + ticks_at m) (cond (r m) (ticks_at m) 0)
    by true more = ticks-push (x ∷ rest) m
    by false more = more

since-push : (p : Demand → Bool) (now : ℕ) (ws : List Demand) (w : Demand) →
    first_since now (from_first p (ws ++ w ∷ [])) ≡ cond (list_any p ws) (first_since now (from_first p ws))
    (cond (p w) (now - w.before) 0)
since-push p now [] w = by (p w)
  where
    by : (b : Bool) → first_since now (cond b (w ∷ []) []) ≡ cond b (now - w.before) 0
    by true = refl
    by false = refl
since-push p now (x ∷ rest) w = by (p x) (since-push p now rest w)
  where
    by : (b : Bool) → first_since now (from_first p (rest ++ w ∷ [])) ≡ cond (list_any p rest)
        (first_since now (from_first p rest)) (cond (p w) (now - w.before) 0) →
        first_since now (cond b (x ∷ rest ++ w ∷ []) (from_first p (rest ++ w ∷ []))) ≡ cond (b || list_any p rest)
        (first_since now (cond b (x ∷ rest) (from_first p rest))) (cond (p w) (now - w.before) 0)
    by true more = refl
    by false more = more

-- ticks more since the first demand that lacks something, where there is one
since-later : (p : Demand → Bool) (now t : ℕ) (ws : List Demand) → IsInTime now ws → list_any p ws ≡ true →
    first_since (now + t) (from_first p ws) ≡ first_since now (from_first p ws) + t
since-later p now t [] times any = absurd (true≢false (sym any))
since-later p now t (x ∷ rest) times any =
    by (p x) (and_parts (nat_le x.before now) (list_all (λ w. nat_le w.before now) rest) times) any
    (since-later p now t rest)
  where
    by : (b : Bool) → (nat_le x.before now ≡ true) × (list_all (λ w. nat_le w.before now) rest ≡ true)
        → (b || list_any p rest) ≡ true
        → (IsInTime now rest → list_any p rest ≡ true → first_since (now + t) (from_first p rest) ≡ first_since now
        (from_first p rest) + t) → first_since (now + t) (cond b (x ∷ rest) (from_first p rest)) ≡ first_since now
        (cond b (x ∷ rest) (from_first p rest)) + t
    by true both e more = let here : x.before ≤ now = leb-true x.before now both.0 in omega arith
    by false both e more = more both.1 e

-- the last demand lacks something where one for the same does
last_unmet : (n : ℕ) (later : ℕ → ℕ) (ws : List Demand) (w : Demand) → ends_with ws w.eligible.numbers ≡ true →
    is_unmet n later w ≡ true → list_any (is_unmet n later) ws ≡ true
last_unmet n later [] w ends lacking = absurd (true≢false (sym ends))
last_unmet n later (x ∷ []) w ends lacking =
    or_left (is_unmet n later x) false
    (ap (λ (es : List ℕ). list_any (λ j. nat_lt (later j) (get_or es j 0)) (numbers_below n))
    ((bytes_eq-Decides x.eligible.numbers w.eligible.numbers).0 ends) ∙ lacking)
last_unmet n later (x ∷ y ∷ rest) w ends lacking =
    or_right (is_unmet n later x) (list_any (is_unmet n later) (y ∷ rest)) (last_unmet n later (y ∷ rest) w ends lacking)

-- What holds of demands and the moments of a stretch, for one test of each.
pub record Tells (p : Demand → Bool) (r : Moment → Bool) (now : ℕ) (ws : List Demand) (ms : List Moment) : Type 0 where
  pub lacking : list_any p ws ≡ list_any r ms
  pub waiting : first_since now (from_first p ws) ≡ ticks_in (from_first r ms)

-- a demand more, and a moment at which as much lacks
tells_pushed : (p : Demand → Bool) (r : Moment → Bool) (now : ℕ) (ws : List Demand) (ms : List Moment) (w : Demand)
    (m : Moment) → IsInTime now ws → w.before ≡ now → p w ≡ r m → Tells p r now ws ms →
    Tells p r (now + ticks_at m) (ws ++ w ∷ []) (ms ++ m ∷ [])
tells_pushed p r now ws ms w m times before same tells =
    record {
      lacking = list_any-append p ws (w ∷ []) ∙ ap (λ b. b || (p w || false)) tells.lacking
          ∙ ap (λ b. list_any r ms || (b || false)) same ∙ sym (list_any-append r ms (m ∷ []));
      waiting = since-push p (now + ticks_at m) ws w ∙ by (list_any p ws) refl ∙ sym (first-push r ms m);
    }
  where
    begins : (b : Bool) → b ≡ r m → cond b (now + ticks_at m - w.before) 0 ≡ cond (r m) (ticks_at m) 0
    begins b e = let gone : now + ticks_at m - w.before ≡ ticks_at m = omega arith in
        ap (λ k. cond b k 0) gone ∙ ap (λ c. cond c (ticks_at m) 0) e

    by : (b : Bool) → list_any p ws ≡ b → cond (list_any p ws) (first_since (now + ticks_at m) (from_first p ws))
        (cond (p w) (now + ticks_at m - w.before) 0) ≡ cond (list_any r ms) (ticks_in (from_first r ms) + ticks_at m)
        (cond (r m) (ticks_at m) 0)
    by true e =
        cond-true (list_any p ws) (first_since (now + ticks_at m) (from_first p ws))
        (cond (p w) (now + ticks_at m - w.before) 0) e ∙ since-later p now (ticks_at m) ws times e
        ∙ ap (λ k. k + ticks_at m) tells.waiting
        ∙ sym (cond-true (list_any r ms) (ticks_in (from_first r ms) + ticks_at m) (cond (r m) (ticks_at m) 0)
        (sym tells.lacking ∙ e))
    by false e =
        cond-false (list_any p ws) (first_since (now + ticks_at m) (from_first p ws))
        (cond (p w) (now + ticks_at m - w.before) 0) e ∙ begins (p w) same
        ∙ sym (cond-false (list_any r ms) (ticks_in (from_first r ms) + ticks_at m) (cond (r m) (ticks_at m) 0)
        (sym tells.lacking ∙ e))

-- no demand more, where a moment that lacks something finds one that does
tells_kept : (p : Demand → Bool) (r : Moment → Bool) (now : ℕ) (ws : List Demand) (ms : List Moment) (m : Moment) →
    IsInTime now ws → (r m ≡ true → list_any p ws ≡ true) → Tells p r now ws ms →
    Tells p r (now + ticks_at m) ws (ms ++ m ∷ [])
tells_kept p r now ws ms m times found tells = by (list_any p ws) (r m) refl refl
  where
    by : (b c : Bool) → list_any p ws ≡ b → r m ≡ c → Tells p r (now + ticks_at m) ws (ms ++ m ∷ [])
    by true c e h = record {
      lacking = e ∙ sym (list_any-append r ms (m ∷ [])
          ∙ or_left (list_any r ms) (r m || false) (sym tells.lacking ∙ e));
      waiting = since-later p now (ticks_at m) ws times e ∙ ap (λ k. k + ticks_at m) tells.waiting
          ∙ sym (first-push r ms m ∙ cond-true (list_any r ms) (ticks_in (from_first r ms) + ticks_at m)
          (cond (r m) (ticks_at m) 0) (sym tells.lacking ∙ e));
    }
    by false true e h = absurd (true≢false (sym (found h) ∙ e))
    by false false e h = record {
      lacking = e ∙ sym (list_any-append r ms (m ∷ []) ∙ ap (λ b. b || (r m || false)) (sym tells.lacking ∙ e)
          ∙ ap (λ b. b || false) h);
      waiting = ap (first_since (now + ticks_at m)) (from_first-none p ws e)
          ∙ sym (first-push r ms m ∙ cond-false (list_any r ms) (ticks_in (from_first r ms) + ticks_at m)
          (cond (r m) (ticks_at m) 0) (sym tells.lacking ∙ e) ∙ ap (λ b. cond b (ticks_at m) 0) h);
    }

wait-is : (g : Group) (v : ℕ) (later : ℕ → ℕ) (moments : List Moment) →
    wait g v later moments ≡ ticks_in (from_first (lacks g later) (stretch v moments))
unfolding wait
wait-is g v later moments = refl

tells_of : (g : Group) (kept : Waiting) (ordered later : ℕ → ℕ) (moments : List Moment) →
    IsWaitOf g kept ordered moments → Rises g.n ordered later →
    Tells (is_unmet g.n later) (lacks g later) kept.ticks kept.demands (stretch kept.view moments)
tells_of g kept ordered later moments is rises = record {
  lacking = is.lacking later rises;
  waiting = is.waiting later rises ∙ wait-is g kept.view later moments;
}

-- what is kept tells of a moment more
told_by : (g : Group) (new : Waiting) (ordered : ℕ → ℕ) (moments : List Moment) (m : Moment) (before : List Moment) →
    new.group.n ≡ g.n → new.ticks ≡ ticks_in moments + ticks_at m → new.view ≡ m.view → stretch m.view moments ≡ before
    → ((later : ℕ → ℕ) → Rises g.n ordered later → Tells (is_unmet g.n later) (lacks g later) new.ticks new.demands
    (before ++ m ∷ [])) → IsWaitOf g new ordered (moments ++ m ∷ [])
told_by g new ordered moments m before masters ticks view here tells =
    record {
      masters = masters;
      ticks = ticks ∙ sym (ticks-push moments m);
      others = λ v apart. stretch-push v moments m
          ∙ cond-false (nat_eq m.view v) (stretch v moments ++ m ∷ []) []
          (ne_eqb m.view v (λ (e : m.view ≡ v). apart (view ∙ e)));
      lacking = λ later rises. (tells later rises).lacking ∙ ap (list_any (lacks g later)) (sym stretched);
      waiting =
          λ later rises. (tells later rises).waiting ∙ ap (λ ms. ticks_in (from_first (lacks g later) ms))
          (sym stretched) ∙ sym (wait-is g new.view later (moments ++ m ∷ []));
    }
  where
    stretched : stretch new.view (moments ++ m ∷ []) ≡ before ++ m ∷ []
    stretched =
        ap (λ v. stretch v (moments ++ m ∷ [])) view
        ∙ stretch-push m.view moments m
        ∙ cond-true (nat_eq m.view m.view) (stretch m.view moments ++ m ∷ []) [] (eq-eqb m.view m.view refl)
        ∙ ap (λ ms. ms ++ m ∷ []) here

-- the demands noted tell of the moment's own stretch
tells_noted : (g : Group) (old : Waiting) (ordered later : ℕ → ℕ) (moments : List Moment) (m : Moment) (w : Demand) →
    IsInTime old.ticks old.demands → w.before ≡ old.ticks →
    ((j : ℕ) → j < g.n → get_or w.eligible.numbers j 0 ≡ get_or m.eligible j 0) → IsWaitOf g old ordered moments →
    Rises g.n ordered later →
    Tells (is_unmet g.n later) (lacks g later) (old.ticks + ticks_at m) (noted true old.demands w)
    (stretch old.view moments ++ m ∷ [])
tells_noted g old ordered later moments m w times before same is rises =
    by (ends_with old.demands w.eligible.numbers) refl
  where
    as_much : is_unmet g.n later w ≡ lacks g later m
    as_much = unmet_lacks g later w m same

    by : (b : Bool) → ends_with old.demands w.eligible.numbers ≡ b →
        Tells (is_unmet g.n later) (lacks g later) (old.ticks + ticks_at m) (cond b old.demands (old.demands ++ w ∷ []))
        (stretch old.view moments ++ m ∷ [])
    by true ends =
        tells_kept (is_unmet g.n later) (lacks g later) old.ticks old.demands (stretch old.view moments) m times
        (λ lacking. last_unmet g.n later old.demands w ends (as_much ∙ lacking)) (tells_of g old ordered later moments is rises)
    by false ends =
        tells_pushed (is_unmet g.n later) (lacks g later) old.ticks old.demands (stretch old.view moments) w m
        times before as_much (tells_of g old ordered later moments is rises)

tells_begun : (g : Group) (later : ℕ → ℕ) (now : ℕ) (m : Moment) (w : Demand) → w.before ≡ now →
    ((j : ℕ) → j < g.n → get_or w.eligible.numbers j 0 ≡ get_or m.eligible j 0) →
    Tells (is_unmet g.n later) (lacks g later) (now + ticks_at m) (w ∷ []) ([] ++ m ∷ [])
tells_begun g later now m w before same =
    tells_pushed (is_unmet g.n later) (lacks g later) now [] [] w m refl before (unmet_lacks g later w m same)
    record { lacking = refl; waiting = refl }

-- one moment more is told
pub seen : (g : Group) (old new : Waiting) (ordered : ℕ → ℕ) (moments : List Moment) (m : Moment) (at_tick : Bool)
    (view : ℕ) (eligible : List ℕ) (d : Demand) → IsInTime old.ticks old.demands → d.before ≡ old.ticks →
    d.eligible.numbers ≡ eligible → new.group ≡ old.group → new.ticks ≡ old.ticks + cond at_tick 1 0 → new.view ≡ view →
    new.demands ≡ noted (nat_eq view old.view) old.demands d → IsMoment g at_tick view eligible m →
    IsWaitOf g old ordered moments → IsWaitOf g new ordered (moments ++ m ∷ [])
seen g old new ordered moments m at_tick view eligible d times before numbers group ticks to demands is_moment is =
    by (nat_eq view old.view) refl
  where
    later_ticks : new.ticks ≡ old.ticks + ticks_at m
    later_ticks = ticks ∙ ap (λ b. old.ticks + cond b 1 0) (sym is_moment.tick)

    as_much : (j : ℕ) → j < g.n → get_or d.eligible.numbers j 0 ≡ get_or m.eligible j 0
    as_much j lt = ap (λ (es : List ℕ). get_or es j 0) numbers ∙ is_moment.as_much j lt

    all_ticks : new.ticks ≡ ticks_in moments + ticks_at m
    all_ticks = later_ticks ∙ ap (λ k. k + ticks_at m) is.ticks

    by : (b : Bool) → nat_eq view old.view ≡ b → IsWaitOf g new ordered (moments ++ m ∷ [])
    by true e =
        told_by g new ordered moments m (stretch old.view moments) (ap (λ h. h.n) group ∙ is.masters) all_ticks
        (to ∙ sym is_moment.of_view)
        (ap (λ v. stretch v moments) (is_moment.of_view ∙ eqb-true view old.view e))
        (λ later rises. subst (λ k. Tells (is_unmet g.n later) (lacks g later) k new.demands
        (stretch old.view moments ++ m ∷ [])) (sym later_ticks)
        (subst (λ ds. Tells (is_unmet g.n later) (lacks g later) (old.ticks + ticks_at m) ds
        (stretch old.view moments ++ m ∷ [])) (sym (demands ∙ ap (λ b. noted b old.demands d) e))
        (tells_noted g old ordered later moments m d times before as_much is rises)))
    by false e =
        told_by g new ordered moments m [] (ap (λ h. h.n) group ∙ is.masters) all_ticks (to ∙ sym is_moment.of_view)
        (is.others m.view (λ (v : old.view ≡ m.view). true≢false
        (sym (eq-eqb view old.view (sym (v ∙ is_moment.of_view))) ∙ e)))
        (λ later rises. subst (λ k. Tells (is_unmet g.n later) (lacks g later) k new.demands ([] ++ m ∷ []))
        (sym later_ticks) (subst (λ ds. Tells (is_unmet g.n later) (lacks g later) (old.ticks + ticks_at m) ds
        ([] ++ m ∷ [])) (sym (demands ∙ ap (λ b. noted b old.demands d) e))
        (tells_begun g later old.ticks m d before as_much)))

-- no demand noted is of a later tick
pub in_time : (now t : ℕ) (same : Bool) (ws : List Demand) (w : Demand) → IsInTime now ws → w.before ≡ now →
    IsInTime (now + t) (noted same ws w)
in_time now t same ws w times before = by same (ends_with ws w.eligible.numbers)
  where
    own : nat_le w.before (now + t) ≡ true
    own = le-leb w.before (now + t) (omega arith)

    all_later : (xs : List Demand) → IsInTime now xs → IsInTime (now + t) xs
    all_later [] all = refl
    all_later (x ∷ rest) all =
        let both : (nat_le x.before now ≡ true) × (list_all (λ y. nat_le y.before now) rest ≡ true) =
        and_parts (nat_le x.before now) (list_all (λ y. nat_le y.before now) rest) all in
        let here : x.before ≤ now = leb-true x.before now both.0 in
        and_from (nat_le x.before (now + t)) (list_all (λ y. nat_le y.before (now + t)) rest)
        (le-leb x.before (now + t) (omega arith)) (all_later rest both.1)

    by : (a b : Bool) → IsInTime (now + t) (cond a (cond b ws (ws ++ w ∷ [])) (w ∷ []))
    by true true = all_later ws times
    by true false =
        list_all-append (λ y. nat_le y.before (now + t)) ws (w ∷ [])
        ∙ and_from (list_all (λ y. nat_le y.before (now + t)) ws) (nat_le w.before (now + t) && true)
        (all_later ws times) (and_from (nat_le w.before (now + t)) true own refl)
    by false b = and_from (nat_le w.before (now + t)) true own refl

in_time_left : (p : Demand → Bool) (now : ℕ) (ws : List Demand) → IsInTime now ws → IsInTime now (from_first p ws)
in_time_left p now [] times = refl
in_time_left p now (x ∷ rest) times =
    by (p x) (in_time_left p now rest ((and_parts (nat_le x.before now) (list_all (λ y. nat_le y.before now) rest) times).1))
  where
    by : (b : Bool) → IsInTime now (from_first p rest) → IsInTime now (cond b (x ∷ rest) (from_first p rest))
    by true more = times
    by false more = more

pub in_time_kept : (p : Demand → Bool) (now : ℕ) (ws kept : List Demand) → kept ≡ from_first p ws → IsInTime now ws →
    IsInTime now kept
in_time_kept p now ws kept e times = subst (IsInTime now) (sym e) (in_time_left p now ws times)

-- before any moment
pub none_seen : (g : Group) (kept : Waiting) (ordered : ℕ → ℕ) → kept.group.n ≡ g.n → kept.ticks ≡ 0 →
    kept.demands ≡ [] → IsWaitOf g kept ordered []
none_seen g kept ordered masters ticks demands =
    record {
      masters = masters;
      ticks = ticks;
      others = λ v apart. refl;
      lacking = λ later rises. ap (list_any (is_unmet g.n later)) demands;
      waiting =
          λ later rises. ap (λ ds. first_since kept.ticks (from_first (is_unmet g.n later) ds)) demands
          ∙ sym (wait-is g kept.view later []);
    }

-- where the demands of which all is ordered go, it stays the wait
pub left : (g : Group) (old new : Waiting) (reach : List ℕ) (ordered : ℕ → ℕ) (moments : List Moment) →
    new.group ≡ old.group → new.ticks ≡ old.ticks → new.view ≡ old.view →
    new.demands ≡ from_first (is_unmet old.group.n (λ j. get_or reach j 0)) old.demands → TellsBelow g.n reach ordered →
    IsWaitOf g old ordered moments → IsWaitOf g new ordered moments
left g old new reach ordered moments group ticks view demands told is =
    record {
      masters = ap (λ h. h.n) group ∙ is.masters;
      ticks = ticks ∙ is.ticks;
      others = λ v apart. is.others v (λ (e : old.view ≡ v). apart (view ∙ e));
      lacking =
          λ later rises. ap (list_any (is_unmet g.n later)) kept
          ∙ any_again (is_unmet g.n ordered) (is_unmet g.n later) old.demands
          (λ d. fewer_unmet g.n ordered later d rises)
          ∙ is.lacking later rises ∙ ap (λ v. list_any (lacks g later) (stretch v moments)) (sym view);
      waiting =
          λ later rises. ap (λ t. first_since t (from_first (is_unmet g.n later) new.demands)) ticks
          ∙ ap (λ ds. first_since old.ticks (from_first (is_unmet g.n later) ds)) kept
          ∙ ap (first_since old.ticks) (first_again (is_unmet g.n ordered) (is_unmet g.n later) old.demands
          (λ d. fewer_unmet g.n ordered later d rises))
          ∙ is.waiting later rises ∙ ap (λ v. wait g v later moments) (sym view);
    }
  where
    kept : new.demands ≡ from_first (is_unmet g.n ordered) old.demands
    kept =
        demands ∙ ap (λ n. from_first (is_unmet n (λ j. get_or reach j 0)) old.demands) is.masters
        ∙ from_first-same (is_unmet g.n (λ j. get_or reach j 0)) (is_unmet g.n ordered)
        (λ d. unmet_told g.n reach ordered d told) old.demands

-- the ticks since the first demand left are the wait
pub waited_now : (g : Group) (old : Waiting) (reach : List ℕ) (ordered : ℕ → ℕ) (moments : List Moment)
    (ds : List Demand) → ds ≡ from_first (is_unmet old.group.n (λ j. get_or reach j 0)) old.demands →
    TellsBelow g.n reach ordered → IsWaitOf g old ordered moments →
    first_since old.ticks ds ≡ wait g old.view ordered moments
waited_now g old reach ordered moments ds demands told is =
    ap (first_since old.ticks) (demands ∙ ap (λ n. from_first (is_unmet n (λ j. get_or reach j 0)) old.demands) is.masters
    ∙ from_first-same (is_unmet g.n (λ j. get_or reach j 0)) (is_unmet g.n ordered)
    (λ d. unmet_told g.n reach ordered d told) old.demands)
    ∙ is.waiting ordered (λ j lt. let same : ordered j ≤ ordered j = omega arith in same)

-- one that stays as long as more is ordered
pub rising : (g : Group) (kept : Waiting) (ordered later : ℕ → ℕ) (moments : List Moment) → Rises g.n ordered later →
    IsWaitOf g kept ordered moments → IsWaitOf g kept later moments
rising g kept ordered later moments rises is =
    record {
      masters = is.masters;
      ticks = is.ticks;
      others = is.others;
      lacking = λ last more. is.lacking last (onward last more);
      waiting = λ last more. is.waiting last (onward last more);
    }
  where
    onward : (last : ℕ → ℕ) → Rises g.n later last → Rises g.n ordered last
    onward last more j lt =
        let one : ordered j ≤ later j = rises j lt in let two : later j ≤ last j = more j lt in omega arith

-- whether the last demand is for the same is read off it
pub ends-last : (ws : List Demand) (last : Demand) (k : ℕ) (es : List ℕ) → k + 1 ≡ length ws → last ≡ get_or ws k last →
    ends_with ws es ≡ bytes_eq last.eligible.numbers es
ends-last [] last k es many is = absurd (omega arith)
ends-last (x ∷ []) last zero es many is = ap (λ (w : Demand). bytes_eq w.eligible.numbers es) (sym is)
ends-last (x ∷ []) last (suc k) es many is = absurd (omega arith)
ends-last (x ∷ y ∷ rest) last zero es many is = absurd (omega arith)
ends-last (x ∷ y ∷ rest) last (suc k) es many is = ends-last (y ∷ rest) last k es (omega arith) is

pub few_ticks : (at_tick : Bool) (ticks more most : ℕ) → more ≡ cond at_tick 1 0 → ticks ≤ most →
    (at_tick ≡ true → ticks < most) → ticks + more ≤ most
few_ticks true ticks more most one most_ticks less = let before : ticks < most = less refl in omega arith
few_ticks false ticks more most none most_ticks less = omega arith
