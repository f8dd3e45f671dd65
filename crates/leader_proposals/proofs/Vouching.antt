-- The vouchers due, and which are said then.
use Rattle.std.proofs.Common.{◌≡◌, ◌≢◌, length-append, ℕ, zero, suc, ◌+◌, ◌<◌, ◌≤◌, ◌⊎◌, inl, inr, Bool, true, false}
use Rattle.std.proofs.Common.{cond, ◌&&◌, ◌||◌, List, [], ◌∷◌, ◌++◌, length, take, nat_eq, nat_le, get_or, set, refl}
use Rattle.std.proofs.Common.{sym, ◌∙◌, ap, subst, arith, add-one, append-nil, append_assoc}
use Rattle.std.specs.List.{list_any, flat_map}
use Rattle.std.proofs.Common.{get_or-set_same, get_or-set_other}
use Rattle.std.proofs.lemmas.Bool.{cases_lt, cases_eq, eq-eqb, ne_eqb, le-leb, lt-leb, and_from, and_left, and_right}
use Rattle.std.proofs.lemmas.Bool.{or_from, or_left, or_right}
use Rattle.std.proofs.lemmas.List.{take_more, length-take-le}
use Rattle.std.proofs.lemmas.Grind.{flat_map-append}
use Rattle.std.proofs.lemmas.List.Folds.{list_any-append}
use Rattle.message_types.specs.declared.vouchers.Order.{Order}
use Rattle.message_types.specs.declared.body.Body.{Body}
use Rattle.message_types.specs.declared.body.Body.TheVariants as body
use Rattle.quorum_sets.specs.Masters.{numbers_below}
use Rattle.protocol_rules.specs.Master.{vouchers_said, vouchers_from}
use Rattle.leader_proposals.specs.Saying.{AreVouchersOf}
use Rattle.quorum_sets.proofs.Numbered.{below_one_more, below_none_at}

abbrev pub voucher_of : ℕ → ℕ → Order → Body
voucher_of c x order = body.Voucher record { client = c; number = x; order = order }

-- the voucher due for one order
abbrev pub one_due : List Body → ℕ → ℕ → Order → List Body
one_due said c x order = cond (list_any (vouchers_said c x) said) [] (voucher_of c x order ∷ [])

-- one order more
pub vouchers-push : (said : List Body) (c x : ℕ) (orders : List Order) (order : Order) →
    vouchers_from said c x (orders ++ order ∷ []) ≡ vouchers_from said c x orders
    ++ one_due said c (x + length orders) order
vouchers-push said c x [] order =
    let here : x ≡ x + 0 = omega arith in
    append-nil (one_due said c x order) ∙ ap (λ n. one_due said c n order) here
vouchers-push said c x (first ∷ orders) order =
    let here : x + 1 + length orders ≡ x + suc (length orders) = omega arith in
    ap (λ xs. one_due said c x first ++ xs) (vouchers-push said c (x + 1) orders order
    ∙ ap (λ n. vouchers_from said c (x + 1) orders ++ one_due said c n order) here)
    ∙ sym (append_assoc (one_due said c x first) (vouchers_from said c (x + 1) orders)
    (one_due said c (x + suc (length orders)) order))

-- none is due where all were said
pub vouchers-none : (said : List Body) (c x : ℕ) (orders : List Order) →
    ((y : ℕ) → x ≤ y → y < x + length orders → list_any (vouchers_said c y) said ≡ true) →
    vouchers_from said c x orders ≡ []
vouchers-none said c x [] all = refl
vouchers-none said c x (order ∷ orders) all =
    ap (λ b. cond b [] (voucher_of c x order ∷ []) ++ vouchers_from said c (x + 1) orders)
    (all x (omega arith) (omega arith))
    ∙ vouchers-none said c (x + 1) orders (λ y low high. all y (omega arith) (omega arith))

-- only the client's vouchers matter
pub vouchers-same : (said other : List Body) (c x : ℕ) (orders : List Order) →
    ((y : ℕ) → list_any (vouchers_said c y) said ≡ list_any (vouchers_said c y) other) →
    vouchers_from said c x orders ≡ vouchers_from other c x orders
vouchers-same said other c x [] same = refl
vouchers-same said other c x (order ∷ orders) same =
    ap (λ b. cond b [] (voucher_of c x order ∷ []) ++ vouchers_from said c (x + 1) orders) (same x)
    ∙ ap (λ xs. one_due other c x order ++ xs) (vouchers-same said other c (x + 1) orders same)

one-any : (said : List Body) (c x d y : ℕ) (order : Order) → (c ≡ d → x ≡ y → ⊥) →
    list_any (vouchers_said d y) (one_due said c x order) ≡ false
one-any said c x d y order apart = by (list_any (vouchers_said c x) said) (cases_eq c d) (cases_eq x y)
  where
    by : (b : Bool) → (c ≡ d) ⊎ (c ≡ d → ⊥) → (x ≡ y) ⊎ (x ≡ y → ⊥) →
        list_any (vouchers_said d y) (cond b [] (voucher_of c x order ∷ [])) ≡ false
    by true cd xy = refl
    by false (inr ne) xy = or_from (nat_eq c d && nat_eq x y) false
        (and_left (nat_eq c d) (nat_eq x y) (ne_eqb c d ne)) refl
    by false (inl e) (inr ne) =
        or_from (nat_eq c d && nat_eq x y) false (and_right (nat_eq c d) (nat_eq x y) (ne_eqb x y ne)) refl
    by false (inl e) (inl f) = absurd (apart e f)

one-here : (said : List Body) (c x : ℕ) (order : Order) → list_any (vouchers_said c x) said ≡ false →
    list_any (vouchers_said c x) (one_due said c x order) ≡ true
one-here said c x order none =
    ap (λ b. list_any (vouchers_said c x) (cond b [] (voucher_of c x order ∷ []))) none
    ∙ or_left (nat_eq c c && nat_eq x x) false (and_from (nat_eq c c) (nat_eq x x) (eq-eqb c c refl) (eq-eqb x x refl))

-- vouchers of another client, or of other numbers
pub vouchers-apart : (said : List Body) (c x d y : ℕ) (orders : List Order) →
    (c ≡ d → x ≤ y → y < x + length orders → ⊥) → list_any (vouchers_said d y) (vouchers_from said c x orders) ≡ false
vouchers-apart said c x d y [] apart = refl
vouchers-apart said c x d y (order ∷ orders) apart =
    list_any-append (vouchers_said d y) (one_due said c x order) (vouchers_from said c (x + 1) orders)
    ∙ or_from (list_any (vouchers_said d y) (one_due said c x order))
    (list_any (vouchers_said d y) (vouchers_from said c (x + 1) orders))
    (one-any said c x d y order (λ e same. apart e (omega arith) (omega arith)))
    (vouchers-apart said c (x + 1) d y orders (λ e low high. apart e (omega arith) (omega arith)))

-- each voucher that wasn't said is there
vouchers-there : (said : List Body) (c x y : ℕ) (orders : List Order) → x ≤ y → y < x + length orders →
    list_any (vouchers_said c y) said ≡ false → list_any (vouchers_said c y) (vouchers_from said c x orders) ≡ true
vouchers-there said c x y [] low high none = absurd (omega arith)
vouchers-there said c x y (order ∷ orders) low high none =
    list_any-append (vouchers_said c y) (one_due said c x order) (vouchers_from said c (x + 1) orders)
    ∙ by (cases_lt x y) (λ less. vouchers-there said c (x + 1) y orders (omega arith) (omega arith) none)
  where
    by : (x < y) ⊎ (y ≤ x) → (x < y → list_any (vouchers_said c y) (vouchers_from said c (x + 1) orders) ≡ true) →
        (list_any (vouchers_said c y) (one_due said c x order) || list_any (vouchers_said c y)
        (vouchers_from said c (x + 1) orders)) ≡ true
    by (inl less) later = or_right (list_any (vouchers_said c y) (one_due said c x order))
        (list_any (vouchers_said c y) (vouchers_from said c (x + 1) orders)) (later less)
    by (inr le) later =
        let same : x ≡ y = omega arith in
        or_left (list_any (vouchers_said c y) (one_due said c x order))
        (list_any (vouchers_said c y) (vouchers_from said c (x + 1) orders))
        (subst (λ (n : ℕ). list_any (vouchers_said c y) (one_due said c n order) ≡ true) (sym same)
        (one-here said c y order none))

-- the vouchers said for the client then are those of all its orders
own-said : (said : List Body) (c count y : ℕ) (orders : List Order) →
    ((x : ℕ) → list_any (vouchers_said c x) said ≡ (nat_le 1 x && nat_le x count)) → count ≤ length orders →
    list_any (vouchers_said c y) (said ++ vouchers_from said c 1 orders) ≡ (nat_le 1 y && nat_le y (length orders))
own-said said c count y orders has few = list_any-append (vouchers_said c y) said (vouchers_from said c 1 orders)
    ∙ by (cases_lt 0 y) (cases_lt (length orders) y) (cases_lt count y)
  where
    new : List Body
    new = vouchers_from said c 1 orders

    none-low : y ≤ 0 → list_any (vouchers_said c y) said ≡ false
    none-low le = has y ∙ and_left (nat_le 1 y) (nat_le y count) (lt-leb 1 y (omega arith))

    none-high : count < y → list_any (vouchers_said c y) said ≡ false
    none-high lt = has y ∙ and_right (nat_le 1 y) (nat_le y count) (lt-leb y count lt)

    by : (0 < y) ⊎ (y ≤ 0) → (length orders < y) ⊎ (y ≤ length orders) → (count < y) ⊎ (y ≤ count) →
        (list_any (vouchers_said c y) said || list_any (vouchers_said c y) (vouchers_from said c 1 orders)) ≡
        (nat_le 1 y && nat_le y (length orders))
    by (inr zero_is) high counted =
        or_from (list_any (vouchers_said c y) said) (list_any (vouchers_said c y) new) (none-low zero_is)
        (vouchers-apart said c 1 c y orders (λ e low lt. omega arith))
        ∙ sym (and_left (nat_le 1 y) (nat_le y (length orders)) (lt-leb 1 y (omega arith)))
    by (inl low) (inl beyond) counted =
        or_from (list_any (vouchers_said c y) said) (list_any (vouchers_said c y) new) (none-high (omega arith))
        (vouchers-apart said c 1 c y orders (λ e le lt. omega arith))
        ∙ sym (and_right (nat_le 1 y) (nat_le y (length orders)) (lt-leb y (length orders) beyond))
    by (inl low) (inr within) (inl new_one) =
        or_right (list_any (vouchers_said c y) said) (list_any (vouchers_said c y) new)
        (vouchers-there said c 1 y orders low (omega arith) (none-high new_one))
        ∙ sym (and_from (nat_le 1 y) (nat_le y (length orders)) (le-leb 1 y low) (le-leb y (length orders) within))
    by (inl low) (inr within) (inr old) =
        or_left (list_any (vouchers_said c y) said) (list_any (vouchers_said c y) new)
        (has y ∙ and_from (nat_le 1 y) (nat_le y count) (le-leb 1 y low) (le-leb y count old))
        ∙ sym (and_from (nat_le 1 y) (nat_le y (length orders)) (le-leb 1 y low) (le-leb y (length orders) within))

pub vouchers-after : (said : List Body) (counts : List ℕ) (c : ℕ) (orders : List Order) → c < length counts → c < 12 →
    get_or counts c 0 ≤ length orders → AreVouchersOf counts said →
    AreVouchersOf (set counts c (length orders)) (said ++ vouchers_from said c 1 orders)
vouchers-after said counts c orders within few le are d y lt = by (cases_eq d c)
  where
    by : (d ≡ c) ⊎ (d ≡ c → ⊥) →
        list_any (vouchers_said d y) (said ++ vouchers_from said c 1 orders) ≡ (nat_le 1 y
        && nat_le y (get_or (set counts c (length orders)) d 0))
    by (inl e) =
        ap (λ n. list_any (vouchers_said n y) (said ++ vouchers_from said c 1 orders)) e
        ∙ own-said said c (get_or counts c 0) y orders (λ x. are c x few) le
        ∙ ap (λ n. nat_le 1 y && nat_le y n)
        (sym (ap (λ k. get_or (set counts c (length orders)) k 0) e
        ∙ get_or-set_same counts c (length orders) 0 within))
    by (inr ne) =
        list_any-append (vouchers_said d y) said (vouchers_from said c 1 orders)
        ∙ ap (λ b. list_any (vouchers_said d y) said || b)
        (vouchers-apart said c 1 d y orders (λ e low high. ne (sym e)))
        ∙ or-false (list_any (vouchers_said d y) said) ∙ are d y lt
        ∙ ap (λ n. nat_le 1 y && nat_le y n) (sym (get_or-set_other counts c d (length orders) 0 ne))
      where
        or-false : (b : Bool) → (b || false) ≡ b
        or-false true = refl
        or-false false = refl

pub vouchers-others : (counts : List ℕ) (said other : List Body) →
    ((c x : ℕ) → c < 12 → list_any (vouchers_said c x) other ≡ list_any (vouchers_said c x) said) →
    AreVouchersOf counts said → AreVouchersOf counts other
vouchers-others counts said other same are c x lt = same c x lt ∙ are c x lt

none-below : (said : List Body) (orders : ℕ → List Order) (d y n : ℕ) → n ≤ d →
    list_any (vouchers_said d y) (flat_map (λ c. vouchers_from said c 1 (orders c)) (numbers_below n)) ≡ false
none-below said orders d y zero le =
    ap (λ ns. list_any (vouchers_said d y) (flat_map (λ c. vouchers_from said c 1 (orders c)) ns)) below_none_at
none-below said orders d y (suc n) le =
    ap (λ ns. list_any (vouchers_said d y) (flat_map (λ c. vouchers_from said c 1 (orders c)) ns))
    (ap numbers_below (sym (add-one n)) ∙ below_one_more n)
    ∙ ap (list_any (vouchers_said d y))
    (flat_map-append (λ c. vouchers_from said c 1 (orders c)) (numbers_below n) (n ∷ []))
    ∙ list_any-append (vouchers_said d y) (flat_map (λ c. vouchers_from said c 1 (orders c)) (numbers_below n))
    (vouchers_from said n 1 (orders n) ++ [])
    ∙ or_from (list_any (vouchers_said d y) (flat_map (λ c. vouchers_from said c 1 (orders c)) (numbers_below n)))
    (list_any (vouchers_said d y) (vouchers_from said n 1 (orders n) ++ []))
    (none-below said orders d y n (omega arith))
    (ap (list_any (vouchers_said d y)) (append-nil (vouchers_from said n 1 (orders n))) ∙ vouchers-apart said n 1 d y
    (orders n) (λ e low high. omega arith))

-- vouchers for the clients before don't change a client's
pub clients-apart : (said : List Body) (orders : ℕ → List Order) (c : ℕ) →
    vouchers_from (said ++ flat_map (λ d. vouchers_from said d 1 (orders d)) (numbers_below c)) c 1
    (orders c) ≡ vouchers_from said c 1 (orders c)
clients-apart said orders c =
    vouchers-same (said ++ flat_map (λ d. vouchers_from said d 1 (orders d)) (numbers_below c)) said c 1 (orders c)
    (λ y. list_any-append (vouchers_said c y) said (flat_map (λ d. vouchers_from said d 1 (orders d)) (numbers_below c))
    ∙ ap (λ b. list_any (vouchers_said c y) said || b) (none-below said orders c y c (omega arith))
    ∙ or-false (list_any (vouchers_said c y) said))
  where
    or-false : (b : Bool) → (b || false) ≡ b
    or-false true = refl
    or-false false = refl

-- as they stand after so many orders were vouched for
pub vouchers-known : (said : List Body) (c count : ℕ) (orders : List Order) → count ≤ length orders →
    ((x : ℕ) → list_any (vouchers_said c x) said ≡ (nat_le 1 x && nat_le x count)) →
    vouchers_from said c 1 (take count orders) ≡ []
vouchers-known said c count orders le has =
    vouchers-none said c 1 (take count orders)
    (λ y low high. let len : length (take count orders) ≡ count = length-take-le count orders le in
    has y ∙ and_from (nat_le 1 y) (nat_le y count) (le-leb 1 y low) (le-leb y count (omega arith)))

-- one order more, that none was said for
pub vouchers-next : (said : List Body) (c count place : ℕ) (orders : List Order) (d : Order) → count ≤ place →
    place < length orders → ((x : ℕ) → list_any (vouchers_said c x) said ≡ (nat_le 1 x && nat_le x count)) →
    vouchers_from said c 1 (take (place + 1) orders) ≡ vouchers_from said c 1 (take place orders)
    ++ voucher_of c (place + 1) (get_or orders place d) ∷ []
vouchers-next said c count place orders d le within has =
    let at : 1 + length (take place orders) ≡ place + 1 = omega (arith, length-take-le place orders (omega arith)) in
    ap (vouchers_from said c 1) (take_more orders place d within)
    ∙ vouchers-push said c 1 (take place orders) (get_or orders place d)
    ∙ ap (λ n. vouchers_from said c 1 (take place orders) ++ one_due said c n (get_or orders place d)) at
    ∙ ap (λ b. vouchers_from said c 1 (take place orders)
    ++ cond b [] (voucher_of c (place + 1) (get_or orders place d) ∷ []))
    (has (place + 1) ∙ and_right (nat_le 1 (place + 1)) (nat_le (place + 1) count)
    (lt-leb (place + 1) count (omega arith)))

-- a count once its orders are vouched for
pub counted-more : (counts : List ℕ) (c : ℕ) (orders more : List Order) → c < length counts →
    get_or (set counts c (length orders)) c 0 ≤ length (orders ++ more)
counted-more counts c orders more within =
    omega (arith, get_or-set_same counts c (length orders) 0 within, length-append orders more)

pub counted-other : (counts : List ℕ) (c d : ℕ) (orders : List Order) → c ≢ d →
    get_or (set counts c (length orders)) d 0 ≡ get_or counts d 0
counted-other counts c d orders ne = get_or-set_other counts c d (length orders) 0 (λ (e : d ≡ c). ne (sym e))
