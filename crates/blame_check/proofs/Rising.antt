-- One master more in a list of rising masters.
use Rattle.std.proofs.Common.{◌≡◌, ℕ, suc, zero, ◌+◌, ◌<◌, ◌≤◌, ◌⊎◌, Bool, true, false, cond, not, ◌||◌, ◌&&◌, List}
use Rattle.std.proofs.Common.{[], ◌∷◌, ◌++◌, Option, Some, None, length, take, get_or, nat_eq, nat_lt, refl, sym, ◌∙◌}
use Rattle.std.proofs.Common.{ap, subst, inl, inr, arith}
use Rattle.std.proofs.lemmas.Bool.{true≢false, false≢true, cases_eq, ne_eqb, eq-eqb, eqb-true, lt-ltb, le-ltb}
use Rattle.std.proofs.lemmas.Bool.{ltb-true, and_parts, false_from_ne_true, not-true}
use Rattle.std.proofs.lemmas.List.{append-nil}
use Rattle.std.proofs.lemmas.List.Elements.{filter_map-append}
use Rattle.std.proofs.lemmas.List.Edits.{insert_end, insert-append_left}
use Rattle.std.proofs.lemmas.List.Sums.{prefix_len-le-length}
use Rattle.std.proofs.lemmas.List.Folds.{list_any_more}
use Rattle.std.specs.List.{cons_option, list_any, position_or_len, insert}
use Rattle.std.specs.Option.{option_or}
use Rattle.plain_lists.proofs.Members.{none_some, any_in, in_filter_map}
use Rattle.quorum_sets.specs.Masters.{numbers_below}
use Rattle.message_types.specs.declared.signed.Signed.{Signed}
use Rattle.message_types.specs.declared.body.Body.{Body}
use Rattle.blame_check.specs.declared.pairs.Named.{Named}
use Rattle.blame_check.specs.Contradictions.{pair_of, rising, IsOwnPair}
use Rattle.blame_check.proofs.FirstPairs.{or_none}
use Rattle.agreement.proofs.CommittedStays.{in_below}

pub rising_zero : (f : ℕ → Option Named) → rising f 0 ≡ []
unfolding numbers_below
rising_zero f = refl

pub rising_suc : (f : ℕ → Option Named) (n : ℕ) → rising f (suc n) ≡ rising f n ++ cons_option (f n) []
unfolding numbers_below
rising_suc f n = filter_map-append f (numbers_below n) (n ∷ [])

pub rising_same : (f g : ℕ → Option Named) (n : ℕ) → ((m : ℕ) → m < n → f m ≡ g m) → rising f n ≡ rising g n
rising_same f g zero same = rising_zero f ∙ sym (rising_zero g)
rising_same f g (suc n) same =
    rising_suc f n ∙ ap (λ (xs : List Named). xs ++ cons_option (f n) [])
    (rising_same f g n (λ m less. same m (omega arith)))
    ∙ ap (λ (o : Option Named). rising g n ++ cons_option o []) (same n (omega arith)) ∙ sym (rising_suc g n)

-- the place of the first item that passes
pub place_found : {X : Type 0} (p : X → Bool) (xs : List X) (i : ℕ) (d : X) → i < length xs →
    list_any p (take i xs) ≡ false → p (get_or xs i d) ≡ true
    → i ≡ position_or_len p xs
place_found p [] i d below none found = absurd (omega arith)
place_found {X} p (y ∷ ys) zero d below none found =
    ap (λ (b : Bool). cond (not b) (1 + position_or_len p ys) 0) (sym found)
place_found {X} p (y ∷ ys) (suc i) d below none found =
    by (p y) refl none (λ h. place_found p ys i d (omega arith) h found)
  where
    by : (b : Bool) → p y ≡ b → (b || list_any p (take i ys)) ≡ false →
        (list_any p (take i ys) ≡ false → i ≡ position_or_len p ys)
        → suc i ≡ cond (not (p y)) (1 + position_or_len p ys) 0
    by true e h deeper = absurd (true≢false h)
    by false e h deeper =
        let is : i ≡ position_or_len p ys = deeper h in
        let one : suc i ≡ 1 + position_or_len p ys = omega arith in
        one ∙ ap (λ (b : Bool). cond (not b) (1 + position_or_len p ys) 0) (sym e)

pub place_none : {X : Type 0} (p : X → Bool) (xs : List X) → list_any p xs ≡ false → length xs ≡ position_or_len p xs
place_none p [] none = refl
place_none {X} p (y ∷ ys) none = by (p y) refl none (λ h. place_none p ys h)
  where
    by : (b : Bool) → p y ≡ b → (b || list_any p ys) ≡ false →
        (list_any p ys ≡ false → length ys ≡ position_or_len p ys)
        → length (y ∷ ys) ≡ cond (not (p y)) (1 + position_or_len p ys) 0
    by true e h deeper = absurd (true≢false h)
    by false e h deeper =
        let is : length ys ≡ position_or_len p ys = deeper h in
        let one : length (y ∷ ys) ≡ 1 + position_or_len p ys = omega arith in
        one ∙ ap (λ (b : Bool). cond (not b) (1 + position_or_len p ys) 0) (sym e)

-- an item behind that passes doesn't move the place
place_before : {X : Type 0} (p : X → Bool) (xs : List X) (z : X) → p z ≡ true →
    position_or_len p (xs ++ z ∷ []) ≡ position_or_len p xs
place_before p [] z e = ap (λ (b : Bool). cond (not b) 1 0) e
place_before p (y ∷ ys) z e = ap (λ (n : ℕ). cond (not (p y)) (1 + n) 0) (place_before p ys z e)

either_false : (a b c : Bool) → (a || b) ≡ false → (b ≡ false → c ≡ false) → (a || c) ≡ false
either_false true b c e deeper = e
either_false false b c e deeper = deeper e

any_behind : {X : Type 0} (p : X → Bool) (xs ys : List X) → list_any p xs ≡ false → list_any p ys ≡ false →
    list_any p (xs ++ ys) ≡ false
any_behind p [] ys none more = more
any_behind p (x ∷ xs) ys none more = either_false (p x) (list_any p xs) (list_any p (xs ++ ys)) none
    (λ h. any_behind p xs ys h more)

abbrev pub above : ℕ → Named → Bool
above m x = nat_lt m x.master

-- none of the first masters' pairs is of a later master
none_above : (f : ℕ → Option Named) → ((m : ℕ) → IsOwnPair m (f m)) → (m n : ℕ) → n ≤ m →
    list_any (above m) (rising f n) ≡ false
none_above f own m zero small = ap (list_any (above m)) (rising_zero f)
none_above f own m (suc n) small =
    ap (list_any (above m)) (rising_suc f n)
    ∙ any_behind (above m) (rising f n) (cons_option (f n) []) (none_above f own m n (omega arith)) (last (f n) refl)
  where
    last : (o : Option Named) → f n ≡ o → list_any (above m) (cons_option o []) ≡ false
    last None e = refl
    last (Some x) e = let is : x.master ≡ n = own n x e in
        ap (λ (b : Bool). b || false) (le-ltb m x.master (omega arith))

abbrev pub with_pair : (ℕ → Option Named) → ℕ → Named → ℕ → Option Named
with_pair f m x k = option_or (f k) (cond (nat_eq m k) (Some x) None)

elsewhere : (f : ℕ → Option Named) (m : ℕ) (x : Named) (k : ℕ) → (m ≡ k → ⊥) → with_pair f m x k ≡ f k
elsewhere f m x k apart = ap (λ (b : Bool). option_or (f k) (cond b (Some x) None)) (ne_eqb m k apart) ∙ or_none (f k)

abbrev pub placed : (ℕ → Option Named) → ℕ → Named → List Named → List Named
placed f m x xs = insert xs (position_or_len (above m) xs) x

put_later : (f : ℕ → Option Named) (m : ℕ) (x : Named) (n : ℕ) → m < n → (o : Option Named) → IsOwnPair n o
    → placed f m x (rising f n) ≡ rising (with_pair f m x) n → placed f m x (rising f n ++ cons_option o []) ≡ rising
    (with_pair f m x) n ++ cons_option o []
put_later f m x n below None own deeper = ap (placed f m x) (append-nil (rising f n)) ∙ deeper
    ∙ sym (append-nil (rising (with_pair f m x) n))
put_later f m x n below (Some y) own deeper =
    let is : y.master ≡ n = own y refl in
    ap (λ (i : ℕ). insert (rising f n ++ y ∷ []) i x)
    (place_before (above m) (rising f n) y (lt-ltb m y.master (omega arith)))
    ∙ insert-append_left (rising f n) (y ∷ []) (position_or_len (above m) (rising f n)) x
    (prefix_len-le-length (λ z. not (above m z)) (rising f n))
    ∙ ap (λ (xs : List Named). xs ++ y ∷ []) deeper

put_here : (f : ℕ → Option Named) → ((m : ℕ) → IsOwnPair m (f m)) → (m : ℕ) (x : Named) → f m ≡ None
    → placed f m x (rising f m ++ cons_option (f m) []) ≡ rising (with_pair f m x) m
    ++ cons_option (with_pair f m x m) []
put_here f own m x none =
    ap (λ (o : Option Named). placed f m x (rising f m ++ cons_option o [])) none
    ∙ ap (placed f m x) (append-nil (rising f m))
    ∙ ap (λ (i : ℕ). insert (rising f m) i x)
    (sym (place_none (above m) (rising f m) (none_above f own m m (omega arith))))
    ∙ insert_end (rising f m) x
    ∙ ap (λ (xs : List Named). xs ++ x ∷ [])
    (rising_same f (with_pair f m x) m (λ k less. sym (elsewhere f m x k (λ same. absurd (omega arith)))))
    ∙ ap (λ (o : Option Named). rising (with_pair f m x) m ++ cons_option o [])
    (sym (ap (λ (o : Option Named). option_or o (cond (nat_eq m m) (Some x) None)) none
    ∙ ap (λ (b : Bool). cond b (Some x) None) (eq-eqb m m refl)))

put_by : (f : ℕ → Option Named) → ((m : ℕ) → IsOwnPair m (f m)) → (m : ℕ) (x : Named) → f m ≡ None → (n : ℕ) →
    m < suc n → (m ≡ n) ⊎ (m ≡ n → ⊥)
    → (m < n → placed f m x (rising f n) ≡ rising (with_pair f m x) n)
    → placed f m x (rising f n ++ cons_option (f n) []) ≡ rising (with_pair f m x) n
    ++ cons_option (with_pair f m x n) []
put_by f own m x none n below (inl is) deeper =
    subst (λ (k : ℕ). placed f m x (rising f k ++ cons_option (f k) []) ≡ rising (with_pair f m x) k
    ++ cons_option (with_pair f m x k) []) is (put_here f own m x none)
put_by f own m x none n below (inr apart) deeper =
    put_later f m x n (omega arith) (f n) (own n) (deeper (omega arith))
    ∙ ap (λ (o : Option Named). rising (with_pair f m x) n ++ cons_option o []) (sym (elsewhere f m x n apart))

-- a pair goes before those of later masters
pub put : (f : ℕ → Option Named) → ((m : ℕ) → IsOwnPair m (f m)) → (m : ℕ) (x : Named) → f m ≡ None → (n : ℕ) → m < n
    → placed f m x (rising f n) ≡ rising (with_pair f m x) n
put f own m x none zero below = absurd (omega arith)
put f own m x none (suc n) below =
    ap (placed f m x) (rising_suc f n)
    ∙ put_by f own m x none n below (cases_eq m n) (λ less. put f own m x none n less)
    ∙ sym (rising_suc (with_pair f m x) n)

abbrev pub is_of : ℕ → Named → Bool
is_of m x = nat_eq x.master m

-- who has no pair isn't in the list
last_other : (m n : ℕ) (o : Option Named) → IsOwnPair n o → (m ≡ n → o ≡ None) →
    list_any (is_of m) (cons_option o []) ≡ false
last_other m n None own none = refl
last_other m n (Some x) own none =
    let is : x.master ≡ n = own x refl in
    ap (λ (b : Bool). b || false) (ne_eqb x.master m (λ same. none_some (sym (none (sym same ∙ is)))))

pub not_there : (f : ℕ → Option Named) → ((m : ℕ) → IsOwnPair m (f m)) → (m : ℕ) → f m ≡ None → (n : ℕ) →
    list_any (is_of m) (rising f n) ≡ false
not_there f own m none zero = ap (list_any (is_of m)) (rising_zero f)
not_there f own m none (suc n) =
    ap (list_any (is_of m)) (rising_suc f n)
    ∙ any_behind (is_of m) (rising f n) (cons_option (f n) []) (not_there f own m none n)
    (last_other m n (f n) (own n) (λ is. sym (ap f is) ∙ none))

-- who has one is
pub there_is : (f : ℕ → Option Named) → ((m : ℕ) → IsOwnPair m (f m)) → (m : ℕ) (x : Named) → f m ≡ Some x → (n : ℕ) →
    m < n → list_any (is_of m) (rising f n) ≡ true
there_is f own m x has n below = any_in (is_of m) (in_filter_map f (in_below n m below) has)
    (eq-eqb x.master m (own m x has))

pub not_listed : (f : ℕ → Option Named) → ((m : ℕ) → IsOwnPair m (f m)) → (m n : ℕ) → m < n →
    list_any (is_of m) (rising f n) ≡ false → f m ≡ None
not_listed f own m n below e = by (f m) refl
  where
    by : (o : Option Named) → f m ≡ o → f m ≡ None
    by None has = has
    by (Some x) has = absurd (true≢false (sym (there_is f own m x has n below) ∙ e))

-- who is in the list, or no master, changes nothing
kept : (o late : Option Named) → (o ≡ None → late ≡ None) → o ≡ option_or o late
kept None late none = sym (none refl)
kept (Some x) late none = refl

pub unchanged : (f : ℕ → Option Named) → ((m : ℕ) → IsOwnPair m (f m)) → (m : ℕ) (x : Named) (n : ℕ) →
    (m < n → list_any (is_of m) (rising f n) ≡ true)
    → rising f n ≡ rising (with_pair f m x) n
unchanged f own m x n listed = rising_same f (with_pair f m x) n (λ k less. by k less (cases_eq m k))
  where
    by : (k : ℕ) → k < n → (m ≡ k) ⊎ (m ≡ k → ⊥) → f k ≡ with_pair f m x k
    by k less (inl is) =
        kept (f k) (cond (nat_eq m k) (Some x) None)
        (λ none. absurd (true≢false (sym (listed (omega arith)) ∙ not_there f own m (ap f is ∙ none) n)))
    by k less (inr apart) = sym (elsewhere f m x k apart)

-- one step of a search
pub none_more : {X : Type 0} (p : X → Bool) (xs : List X) (i : ℕ) (d : X) → i < length xs →
    list_any p (take i xs) ≡ false → p (get_or xs i d) ≡ false
    → list_any p (take (i + 1) xs) ≡ false
none_more p xs i d below none fails = list_any_more p xs i d below
    ∙ ap (λ (b : Bool). b || p (get_or xs i d)) none ∙ fails

pub other_number : (a b : ℕ) → (a ≡ b → ⊥) → nat_eq a b ≡ false
other_number a b apart = false_from_ne_true (nat_eq a b) (λ e. apart (eqb-true a b e))

-- who isn't new is listed, or no master
pub named_already : (m n : ℕ) (slice xs : List Named) → false ≡ (nat_lt m n && not (list_any (is_of m) slice)) →
    slice ≡ xs → m < n → list_any (is_of m) xs ≡ true
named_already m n slice xs told same below =
    ap (list_any (is_of m)) (sym same) ∙ by (nat_lt m n) (list_any (is_of m) slice) (lt-ltb m n below) (sym told)
  where
    by : (x y : Bool) → x ≡ true → (x && not y) ≡ false → y ≡ true
    by true true a e = refl
    by true false a e = absurd (true≢false e)
    by false y a e = absurd (false≢true a)

-- a new pair, at its place
pub new_named : (pair : ℕ → Option Named) → ((m : ℕ) → IsOwnPair m (pair m)) →
    (n : ℕ) (first second copied : Signed Body) (old slice again after : List Named) (place : ℕ)
    → true ≡ (nat_lt second.signer n && not (list_any (is_of second.signer) slice)) → slice ≡ old → again ≡ old →
    place ≡ position_or_len (above second.signer) again
    → copied ≡ first → after ≡ insert old place (pair_of copied second) → old ≡ rising pair n
    → after ≡ rising (with_pair pair second.signer (pair_of first second)) n
new_named pair own n first second copied old slice again after place told same same_again at same_first made is =
    let m = second.signer in
    let both = and_parts (nat_lt m n) (not (list_any (is_of m) slice)) (sym told) in
    let below : m < n = ltb-true m n both.0 in
    let none : pair m ≡ None =
    not_listed pair own m n below (ap (list_any (is_of m)) (sym is ∙ sym same)
    ∙ not-true (list_any (is_of m) slice) both.1) in
    made
    ∙ ap (λ (i : ℕ). insert old i (pair_of copied second)) (at ∙ ap (position_or_len (above m)) same_again)
    ∙ ap (λ (z : Signed Body). insert old (position_or_len (above m) old) (pair_of z second)) same_first
    ∙ ap (placed pair m (pair_of first second)) is
    ∙ put pair own m (pair_of first second) none n below
