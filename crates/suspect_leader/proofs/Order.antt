-- The order of sayings, as the sets keep it.
use Rattle.std.proofs.Common.{◌≡◌, ℕ, ◌<◌, Less, Equal, Greater, Bool, true, false, ◌&&◌, ◌||◌, List, [], ◌∷◌, nat_eq}
use Rattle.std.proofs.Common.{nat_lt, refl, sym, ◌∙◌, ap, inl, inr, ◌⊎◌, arith}
use Rattle.std.specs.List.{AllByRecursion}
use Rattle.std.specs.List.Sorted.{IsStrictlySortedBy}
use Rattle.std.specs.Ordering.{is_eq, is_lt, nat_cmp, ordering_then}
use Rattle.std.specs.declared.cmp.Ordering.{Ordering}
use Rattle.std.proofs.lemmas.Bool.{ltb-true, lt-ltb, eqb-true, eq-eqb, and_parts, or_cases, true≢false}
use Rattle.suspect_leader.specs.declared.saying.Saying.{Saying}
use Rattle.suspect_leader.specs.declared.saying.Saying.TheVariants.{Ping, Pong, RoundTrip, Report, Bound, Vote}
use Rattle.suspect_leader.specs.contracts.saying.SayingOrd.TheImpl.{cmp-value}
use Rattle.suspect_leader.specs.Sayings.{same_saying, is_among}
use Rattle.plain_lists.proofs.Orders.{is_lt_then, is_lt_number, is_eq_number, pair_same}
use Rattle.plain_lists.proofs.Booleans.{nat_eq-itself}

abbrev pub order : Saying → Saying → Ordering
order = cmp-value.it

is_less : (o : Ordering) → is_lt o ≡ true → o ≡ Less
is_less Less e = refl
is_less Equal e = absurd (cc)
is_less Greater e = absurd (cc)

pair_before : (a b x y : ℕ) →
    is_lt (ordering_then (nat_cmp a x) (nat_cmp b y)) ≡ (nat_lt a x || nat_eq a x && nat_lt b y)
pair_before a b x y =
    is_lt_then (nat_cmp a x) (nat_cmp b y) ∙ ap (λ t. t || is_eq (nat_cmp a x) && is_lt (nat_cmp b y))
    (is_lt_number a x)
    ∙ ap (λ t. nat_lt a x || t && is_lt (nat_cmp b y)) (is_eq_number a x)
    ∙ ap (λ t. nat_lt a x || nat_eq a x && t) (is_lt_number b y)

pub number_less : (x y : ℕ) → x < y → nat_cmp x y ≡ Less
number_less x y lt = is_less (nat_cmp x y) (is_lt_number x y ∙ lt-ltb x y lt)

pub pair_less_first : (a b x y : ℕ) → a < x → ordering_then (nat_cmp a x) (nat_cmp b y) ≡ Less
pair_less_first a b x y lt = ap (λ o. ordering_then o (nat_cmp b y)) (number_less a x lt)

pub pair_less_second : (a b y : ℕ) → b < y → ordering_then (nat_cmp a a) (nat_cmp b y) ≡ Less
pair_less_second a b y lt = is_less (ordering_then (nat_cmp a a) (nat_cmp b y))
    (pair_before a b a y ∙ at (nat_lt a a) (nat_eq a a) (eq-eqb a a refl))
  where
    at : (l e : Bool) → e ≡ true → (l || e && nat_lt b y) ≡ true
    at true e h = refl
    at false e h = ap (λ t. t && nat_lt b y) h ∙ lt-ltb b y lt

number_both : (x y : ℕ) → nat_cmp x y ≡ Less → nat_cmp y x ≡ Less → ⊥
number_both x y one two =
    let p : x < y = ltb-true x y (sym (is_lt_number x y) ∙ ap is_lt one) in
    let q : y < x = ltb-true y x (sym (is_lt_number y x) ∙ ap is_lt two) in
    absurd (omega (arith, p, q))

pair_both : (a b x y : ℕ) → ordering_then (nat_cmp a x) (nat_cmp b y) ≡ Less →
    ordering_then (nat_cmp x a) (nat_cmp y b) ≡ Less → ⊥
pair_both a b x y one two =
    split (or_cases (nat_lt a x) (nat_eq a x && nat_lt b y) (sym (pair_before a b x y) ∙ ap is_lt one))
    (or_cases (nat_lt x a) (nat_eq x a && nat_lt y b) (sym (pair_before x y a b) ∙ ap is_lt two))
  where
    split : (nat_lt a x ≡ true) ⊎ ((nat_eq a x && nat_lt b y) ≡ true) → (nat_lt x a ≡ true)
        ⊎ ((nat_eq x a && nat_lt y b) ≡ true) → ⊥
    split (inl p) (inl q) = let u : a < x = ltb-true a x p in let v : x < a = ltb-true x a q in
        absurd (omega (arith, u, v))
    split (inl p) (inr q) =
        let u : a < x = ltb-true a x p in
        let w : x ≡ a = eqb-true x a ((and_parts (nat_eq x a) (nat_lt y b) q).0) in
        absurd (omega (arith, u, w))
    split (inr p) (inl q) =
        let u : x < a = ltb-true x a q in
        let w : a ≡ x = eqb-true a x ((and_parts (nat_eq a x) (nat_lt b y) p).0) in
        absurd (omega (arith, u, w))
    split (inr p) (inr q) =
        let u : b < y = ltb-true b y ((and_parts (nat_eq a x) (nat_lt b y) p).1) in
        let v : y < b = ltb-true y b ((and_parts (nat_eq x a) (nat_lt y b) q).1) in
        absurd (omega (arith, u, v))

pub order_same : (x y : Saying) → is_eq (order x y) ≡ same_saying x y
order_same (Ping a) (Ping x) = is_eq_number a x
order_same (Pong a b) (Pong x y) = pair_same a b x y
order_same (RoundTrip a b) (RoundTrip x y) = pair_same a b x y
order_same (Report a b) (Report x y) = pair_same a b x y
order_same (Bound a) (Bound x) = is_eq_number a x
order_same (Vote a) (Vote x) = is_eq_number a x
order_same _ _ = refl

-- two that are one are equal
pub same_is : (x y : Saying) → same_saying x y ≡ true → x ≡ y
same_is (Ping a) (Ping x) e = ap Ping (eqb-true a x e)
same_is (Pong a b) (Pong x y) e =
    let both : (nat_eq a x ≡ true) × (nat_eq b y ≡ true) = and_parts (nat_eq a x) (nat_eq b y) e in
    ap (λ v. Pong v b) (eqb-true a x both.0) ∙ ap (λ v. Pong x v) (eqb-true b y both.1)
same_is (RoundTrip a b) (RoundTrip x y) e =
    let both : (nat_eq a x ≡ true) × (nat_eq b y ≡ true) = and_parts (nat_eq a x) (nat_eq b y) e in
    ap (λ v. RoundTrip v b) (eqb-true a x both.0) ∙ ap (λ v. RoundTrip x v) (eqb-true b y both.1)
same_is (Report a b) (Report x y) e =
    let both : (nat_eq a x ≡ true) × (nat_eq b y ≡ true) = and_parts (nat_eq a x) (nat_eq b y) e in
    ap (λ v. Report v b) (eqb-true a x both.0) ∙ ap (λ v. Report x v) (eqb-true b y both.1)
same_is (Bound a) (Bound x) e = ap Bound (eqb-true a x e)
same_is (Vote a) (Vote x) e = ap Vote (eqb-true a x e)
same_is _ _ e = absurd (cc)

both_themselves : (x y : ℕ) → (nat_eq x x && nat_eq y y) ≡ true
both_themselves x y = ap (λ b. b && nat_eq y y) (nat_eq-itself x) ∙ nat_eq-itself y

pub same_itself : (x : Saying) → same_saying x x ≡ true
same_itself (Ping a) = nat_eq-itself a
same_itself (Pong a b) = both_themselves a b
same_itself (RoundTrip a b) = both_themselves a b
same_itself (Report a b) = both_themselves a b
same_itself (Bound a) = nat_eq-itself a
same_itself (Vote a) = nat_eq-itself a

not_both : (x y : Saying) → order x y ≡ Less → order y x ≡ Less → ⊥
not_both (Ping a) (Ping x) = number_both a x
not_both (Pong a b) (Pong x y) = pair_both a b x y
not_both (RoundTrip a b) (RoundTrip x y) = pair_both a b x y
not_both (Report a b) (Report x y) = pair_both a b x y
not_both (Bound a) (Bound x) = number_both a x
not_both (Vote a) (Vote x) = number_both a x
not_both _ _ = λ one two. absurd (cc)

abbrev pub Rising : List Saying → Type 0
Rising = IsStrictlySortedBy order

-- one of a list after which x stands isn't x
after_isnt : (x : Saying) (rest : List Saying) → AllByRecursion (λ y. order x y ≡ Less) rest → is_among rest x ≡ false
after_isnt x [] all = refl
after_isnt x (y ∷ rest) all = ap (λ b. b || is_among rest x) (sym (order_same x y) ∙ ap is_eq all.0)
    ∙ after_isnt x rest all.1

step_among : (x s y : Saying) (there : Bool) → (same_saying s y || there) ≡ true → order x y ≡ Less →
    (there ≡ true → order x s ≡ Less) → order x s ≡ Less
step_among x s y there e first later = by (or_cases (same_saying s y) there e)
  where
    by : (same_saying s y ≡ true) ⊎ (there ≡ true) → order x s ≡ Less
    by (inl here) = ap (order x) (same_is s y here) ∙ first
    by (inr after) = later after

-- one that is among them comes after what all come after
among_after : (x s : Saying) (rest : List Saying) → AllByRecursion (λ y. order x y ≡ Less) rest →
    is_among rest s ≡ true → order x s ≡ Less
among_after x s [] all e = absurd (true≢false (sym e))
among_after x s (y ∷ rest) all e = step_among x s y (is_among rest s) e all.0 (among_after x s rest all.1)

swapped : (x y : Saying) → same_saying x y ≡ false → same_saying y x ≡ false
swapped x y apart_ = look (same_saying y x) refl
  where
    look : (b : Bool) → same_saying y x ≡ b → b ≡ false
    look false q = refl
    look true q = absurd (true≢false (sym (same_itself x) ∙ ap (same_saying x) (sym (same_is y x q)) ∙ apart_))

tails : (x y : Saying) (xs ys : List Saying) → AllByRecursion (λ z. order x z ≡ Less) xs →
    AllByRecursion (λ z. order y z ≡ Less) ys → x ≡ y
    → ((s : Saying) → is_among (x ∷ xs) s ≡ is_among (y ∷ ys) s) → (s : Saying) → is_among xs s ≡ is_among ys s
tails x y xs ys up down e same s = at (same_saying s x) refl
  where
    at : (b : Bool) → same_saying s x ≡ b → is_among xs s ≡ is_among ys s
    at true here =
        ap (is_among xs) (same_is s x here) ∙ after_isnt x xs up
        ∙ sym (ap (is_among ys) (same_is s x here ∙ e) ∙ after_isnt y ys down)
    at false there =
        sym (ap (λ b. b || is_among xs s) there) ∙ same s ∙ ap (λ b. b || is_among ys s)
        (ap (same_saying s) (sym e) ∙ there)

heads : (x y : Saying) (xs ys : List Saying) → AllByRecursion (λ z. order x z ≡ Less) xs →
    AllByRecursion (λ z. order y z ≡ Less) ys
    → ((s : Saying) → is_among (x ∷ xs) s ≡ is_among (y ∷ ys) s) → x ≡ y
heads x y xs ys up down same = by (same_saying x y) refl
  where
    by : (b : Bool) → same_saying x y ≡ b → x ≡ y
    by true e = same_is x y e
    by false e =
        absurd (not_both x y
        (among_after x y xs up (sym (ap (λ b. b || is_among xs y) (swapped x y e)) ∙ same y
        ∙ ap (λ b. b || is_among ys y) (same_itself y)))
        (among_after y x ys down (sym (ap (λ b. b || is_among ys x) e) ∙ sym (same x)
        ∙ ap (λ b. b || is_among xs x) (same_itself x))))

-- two rising lists of the same sayings are one
pub unique : (xs ys : List Saying) → Rising xs → Rising ys → ((s : Saying) → is_among xs s ≡ is_among ys s) → xs ≡ ys
unfolding IsStrictlySortedBy
unique [] [] up down same = refl
unique [] (y ∷ ys) up down same = absurd (true≢false (sym (same y ∙ ap (λ b. b || is_among ys y) (same_itself y))))
unique (x ∷ xs) [] up down same = absurd (true≢false (sym (ap (λ b. b || is_among xs x) (same_itself x)) ∙ same x))
unique (x ∷ xs) (y ∷ ys) up down same =
    let e : x ≡ y = heads x y xs ys up.0 down.0 same in
    ap (λ v. v ∷ xs) e ∙ ap (λ l. y ∷ l) (unique xs ys up.1 down.1 (tails x y xs ys up.0 down.0 e same))
