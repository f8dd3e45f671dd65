-- To give one order and then the rest is to give them all, and an order that is taken away again leaves the
-- lists as they were. All by going along the lists to the client's place.
use Rattle.std.proofs.Common.{◌≡◌, ◌<◌, ℕ, zero, suc, List, [], ◌∷◌, ◌++◌, length, get_or, slice_set, refl, sym, ◌∙◌}
use Rattle.std.proofs.Common.{ap, arith, subst}
use Rattle.message_types.specs.declared.vouchers.Order.{Order}
use Rattle.master_points.specs.declared.effect.Addressed.{Addressed}
use Rattle.master_points.specs.Lists.{add_to, given, AreAddressed}

-- a list with one order more in its place
add_to-set : (ls : List (List Order)) (c : ℕ) (o : Order) (l p : List Order) → c < length ls → l ≡ get_or ls c l →
    p ≡ l ++ o ∷ [] → slice_set ls c p ≡ add_to c o ls
add_to-set [] c o l p low at is = absurd (omega arith)
add_to-set (m ∷ ls) zero o l p low at is = let same : l ≡ m = at in
    ap (λ (x : List Order). x ∷ ls) (is ∙ ap (λ (x : List Order). x ++ o ∷ []) same)
add_to-set (m ∷ ls) (suc c) o l p low at is =
    ap (λ (x : List (List Order)). m ∷ x) (add_to-set ls c o l p (omega arith) at is)

-- one order is given, and then the rest
pub given-first : (all rest : List Addressed) (a : Addressed) (ls new : List (List Order)) (l p : List Order) →
    all ≡ a ∷ rest → a.client < length ls → l ≡ get_or ls a.client l → p ≡ l ++ a.order ∷ [] →
    new ≡ given rest (slice_set ls a.client p) → new ≡ given all ls
given-first all rest a ls new l p whole low at is got =
    got ∙ (ap (given rest) (add_to-set ls a.client a.order l p low at is)
    ∙ ap (λ (as' : List Addressed). given as' ls) (sym whole))

-- a list that is put back
put_back : (ls : List (List Order)) (c : ℕ) (l p : List Order) → l ≡ get_or ls c l →
    slice_set (slice_set ls c p) c l ≡ ls
put_back [] c l p at = refl
put_back (m ∷ ls) zero l p at = ap (λ (x : List Order). x ∷ ls) at
put_back (m ∷ ls) (suc c) l p at = ap (λ (x : List (List Order)). m ∷ x) (put_back ls c l p at)

there : (ls : List (List Order)) (c : ℕ) (p q : List Order) → c < length ls → q ≡ get_or (slice_set ls c p) c q → q ≡ p
there [] c p q low at = absurd (omega arith)
there (m ∷ ls) zero p q low at = at
there (m ∷ ls) (suc c) p q low at = there ls c p q (omega arith) at

-- the order is taken away again
pub given-undone : (ls mid : List (List Order)) (c : ℕ) (o : Order) (l p q r : List Order) → c < length ls →
    l ≡ get_or ls c l → p ≡ l ++ o ∷ [] → mid ≡ slice_set ls c p → q ≡ get_or mid c q
    → ((before : List Order) (last : Order) → q ≡ before ++ last ∷ [] → r ≡ before) → slice_set mid c r ≡ ls
given-undone ls mid c o l p q r low at is same found cut =
    let q-is : q ≡ p = there ls c p q low (found ∙ ap (λ (x : List (List Order)). get_or x c q) same) in
    let r-is : r ≡ l = cut l o (q-is ∙ is) in
    ap (λ (x : List (List Order)). slice_set x c r) same
    ∙ (ap (λ (x : List Order). slice_set (slice_set ls c p) c x) r-is ∙ put_back ls c l p at)

-- the first order is for a client that is there
pub AreAddressed-first : (n : ℕ) (all rest : List Addressed) (a : Addressed) → all ≡ a ∷ rest →
    AreAddressed n all → a.client < n
AreAddressed-first n all rest a e h = (subst (λ (x : List Addressed). AreAddressed n x) e h).0
