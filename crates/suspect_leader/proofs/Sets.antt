-- The sets of sayings as lists.
use Rattle.std.proofs.Common.{◌≡◌, ℕ, ◌+◌, ◌<◌, ◌≤◌, ◌++◌, ◌-◌, suc, length, take, drop, arith, Bool, true, false}
use Rattle.std.proofs.Common.{cond, ◌&&◌, ◌||◌, not, List, [], ◌∷◌, Option, Some, None, refl, sym, ◌∙◌, ap}
use Rattle.std.specs.List.{list_any, slice_index_or}
use Rattle.std.proofs.lemmas.List.{take_more}
use Rattle.std.proofs.Math.Seq.{take-length}
use Rattle.std.proofs.lemmas.List.Folds.{list_any-append}
use Rattle.std.specs.Ordering.{is_eq, match_ordering}
use Rattle.std.specs.declared.cmp.Ordering.{Ordering}
use Rattle.std.specs.declared.cmp.Ordering.TheVariants.{Less, Equal, Greater}
use Rattle.std.proofs.lemmas.Bool.{not-true, true≢false}
use Rattle.std.specs.BTreeSet.{BTreeSet, insert_key, Updates, UpdatesBy}
use Rattle.std.specs.BTreeMap.{is_at}
use Rattle.std.specs.Set.{remove_key}
use Rattle.suspect_leader.specs.declared.saying.Saying.{Saying}
use Rattle.message_types.specs.declared.body.Body.{Body}
use Rattle.message_types.specs.declared.body.Body.TheVariants as body
use Rattle.suspect_leader.specs.declared.saying.Saying.TheVariants.{Ping, Pong, RoundTrip, Report, Bound, Vote}
use Rattle.suspect_leader.specs.Sayings.{says, saying_in, same_saying, is_among}
use Rattle.suspect_leader.proofs.Order.{order, order_same, same_itself, same_is}
use Rattle.plain_lists.proofs.Booleans.{cond_true}

pub among_is : (keys : List Saying) (s : Saying) → list_any (is_at (order s)) keys ≡ is_among keys s
among_is [] s = refl
among_is (x ∷ rest) s = ap (λ b. b || list_any (is_at (order s)) rest) (order_same s x)
    ∙ ap (λ b. same_saying s x || b) (among_is rest s)

pub among_put : (old new : BTreeSet Saying) (x s : Saying) → Updates order old new x true →
    is_among new.keys s ≡ (same_saying x s || is_among old.keys s)
among_put old new x s u =
    sym (among_is new.keys s) ∙ u.0 s ∙ cond_true (is_eq (order x s)) (list_any (is_at (order s)) old.keys)
    ∙ ap (λ b. b || list_any (is_at (order s)) old.keys) (order_same x s)
    ∙ ap (λ b. same_saying x s || b) (among_is old.keys s)

pub among_removed : (old new : BTreeSet Saying) (x s : Saying) → UpdatesBy order (order x) old new false →
    is_among new.keys s ≡ cond (same_saying x s) false (is_among old.keys s)
among_removed old new x s u =
    sym (among_is new.keys s) ∙ u.0 s ∙ ap (λ b. cond b false (list_any (is_at (order s)) old.keys)) (order_same x s)
    ∙ ap (λ b. cond (same_saying x s) false b) (among_is old.keys s)

-- to put one in that isn't there and take it out changes nothing
pub taken_out : (keys : List Saying) (x : Saying) → is_among keys x ≡ false →
    remove_key (is_at (order x)) (insert_key order keys x) ≡ keys
taken_out [] x none = ap (λ b. cond b [] (x ∷ [])) (order_same x x ∙ same_itself x)
taken_out (y ∷ rest) x none = at (order x y) refl (taken_out rest x)
  where
    at : (o : Ordering) → order x y ≡ o →
        (is_among rest x ≡ false → remove_key (is_at (order x)) (insert_key order rest x) ≡ rest) →
        remove_key (is_at (order x)) (insert_key order (y ∷ rest) x) ≡ y ∷ rest
    at Less e less =
        ap (λ o. remove_key (is_at (order x))
        (match_ordering o (x ∷ y ∷ rest) (y ∷ rest) (y ∷ insert_key order rest x))) e
        ∙ ap (λ b. cond b (y ∷ rest) (x ∷ remove_key (is_at (order x)) (y ∷ rest))) (order_same x x ∙ same_itself x)
    at Equal e less = absurd (true≢false
        (sym (ap (λ b. b || is_among rest x) (sym (order_same x y) ∙ ap is_eq e)) ∙ none))
    at Greater e less =
        ap (λ o. remove_key (is_at (order x))
        (match_ordering o (x ∷ y ∷ rest) (y ∷ rest) (y ∷ insert_key order rest x))) e
        ∙ ap (λ o. cond (is_eq o) (insert_key order rest x)
        (y ∷ remove_key (is_at (order x)) (insert_key order rest x))) e
        ∙ ap (λ l. y ∷ l) (less (sym (ap (λ t. t || is_among rest x) (sym (order_same x y) ∙ ap is_eq e)) ∙ none))

pub said_is : (said : BTreeSet Saying) (x : Saying) (b : Bool) → b ≡ list_any (is_at (order x)) said.keys →
    is_among said.keys x ≡ b
said_is said x b e = sym (among_is said.keys x) ∙ sym e

-- an answer that was given isn't owed
pub owed_none : (pending : List Saying) (said : BTreeSet Saying) (x s : Saying) → is_among said.keys x ≡ true →
    is_among pending s ≡ (same_saying x s && not (is_among said.keys s) || is_among pending s)
owed_none pending said x s given = at (same_saying x s) refl
  where
    at : (b : Bool) → same_saying x s ≡ b → is_among pending s ≡ (b && not (is_among said.keys s) || is_among pending s)
    at true e = sym (ap (λ v. not (is_among said.keys v) || is_among pending s) (sym (same_is x s e))
        ∙ ap (λ b. not b || is_among pending s) given)
    at false e = refl

pub owed_put : (old new said : BTreeSet Saying) (x s : Saying) → is_among said.keys x ≡ false →
    Updates order old new x true →
    is_among new.keys s ≡ (same_saying x s && not (is_among said.keys s) || is_among old.keys s)
owed_put old new said x s fresh u = among_put old new x s u ∙ at (same_saying x s) refl
  where
    at : (b : Bool) → same_saying x s ≡ b →
        (b || is_among old.keys s) ≡ (b && not (is_among said.keys s) || is_among old.keys s)
    at true e = sym (ap (λ v. not (is_among said.keys v) || is_among old.keys s) (sym (same_is x s e))
        ∙ ap (λ b. not b || is_among old.keys s) fresh)
    at false e = refl

-- what a body says
pub says_is : (s : Saying) (word : Body) →
    says s word ≡ elim (saying_in word) [ None ↦ false | Some x ↦ same_saying x s ]
says_is (Ping number) word =
    elim word as (λ w. says (Ping number) w ≡ elim (saying_in w)
    [ None ↦ false | Some x ↦ same_saying x (Ping number) ]) [ body.Ping b ↦ refl | _ ↦ refl ]
says_is (Pong to number) word =
    elim word as (λ w. says (Pong to number) w ≡ elim (saying_in w)
    [ None ↦ false | Some x ↦ same_saying x (Pong to number) ]) [ body.Ping b ↦ refl | _ ↦ refl ]
says_is (RoundTrip to number) word =
    elim word as (λ w. says (RoundTrip to number) w ≡ elim (saying_in w)
    [ None ↦ false | Some x ↦ same_saying x (RoundTrip to number) ]) [ body.Ping b ↦ refl | _ ↦ refl ]
says_is (Report v ticks) word =
    elim word as (λ w. says (Report v ticks) w ≡ elim (saying_in w)
    [ None ↦ false | Some x ↦ same_saying x (Report v ticks) ]) [ body.Ping b ↦ refl | _ ↦ refl ]
says_is (Bound v) word = elim word as
    (λ w. says (Bound v) w ≡ elim (saying_in w) [ None ↦ false | Some x ↦ same_saying x (Bound v) ])
    [ body.Ping b ↦ refl | _ ↦ refl ]
says_is (Vote v) word = elim word as
    (λ w. says (Vote v) w ≡ elim (saying_in w) [ None ↦ false | Some x ↦ same_saying x (Vote v) ])
    [ body.Ping b ↦ refl | _ ↦ refl ]

pub says_one : (s x : Saying) (word : Body) → saying_in word ≡ Some x → says s word ≡ same_saying x s
says_one s x word e = says_is s word ∙ ap (λ (o : Option Saying). elim o [ None ↦ false | Some y ↦ same_saying y s ]) e

pub says_none : (s : Saying) (word : Body) → saying_in word ≡ None → says s word ≡ false
says_none s word e = says_is s word ∙ ap (λ (o : Option Saying). elim o [ None ↦ false | Some y ↦ same_saying y s ]) e

cond_false : (t b : Bool) → cond t false b ≡ (not t && b)
cond_false true b = refl
cond_false false b = refl

pub settled_one : (old new : BTreeSet Saying) (x s : Saying) (word : Body) → saying_in word ≡ Some x →
    UpdatesBy order (order x) old new false → is_among new.keys s ≡ (not (says s word) && is_among old.keys s)
settled_one old new x s word e u = among_removed old new x s u ∙ cond_false (same_saying x s) (is_among old.keys s)
    ∙ ap (λ b. not b && is_among old.keys s) (sym (says_one s x word e))

pub settled_none : (keys : List Saying) (s : Saying) (word : Body) → saying_in word ≡ None →
    is_among keys s ≡ (not (says s word) && is_among keys s)
settled_none keys s word e = sym (ap (λ b. not b && is_among keys s) (says_none s word e))

or_front : (a b d : Bool) → (b || (a || d)) ≡ ((a || b) || d)
or_front true true d = refl
or_front true false d = refl
or_front false true d = refl
or_front false false d = refl

-- one body counted, and then the rest
pub counted_one : (old put : BTreeSet Saying) (new : List Saying) (x s : Saying) (word : Body) (rest : List Body) →
    saying_in word ≡ Some x → Updates order old put x true
    → is_among new s ≡ (list_any (says s) rest || is_among put.keys s) →
    is_among new s ≡ (list_any (says s) (word ∷ rest) || is_among old.keys s)
counted_one old put new x s word rest e u more =
    more ∙ ap (λ b. list_any (says s) rest || b) (among_put old put x s u)
    ∙ or_front (same_saying x s) (list_any (says s) rest) (is_among old.keys s)
    ∙ ap (λ b. (b || list_any (says s) rest) || is_among old.keys s) (sym (says_one s x word e))

pub counted_none : (old new : List Saying) (s : Saying) (word : Body) (rest : List Body) → saying_in word ≡ None
    → is_among new s ≡ (list_any (says s) rest || is_among old s) →
    is_among new s ≡ (list_any (says s) (word ∷ rest) || is_among old s)
counted_none old new s word rest e more = more ∙ ap (λ b. (b || list_any (says s) rest) || is_among old s)
    (sym (says_none s word e))

-- taken back after want of memory
pub taken_back : (old : BTreeSet Saying) (put after : List Saying) (x : Saying) (fresh : Bool) →
    put ≡ insert_key order old.keys x → fresh ≡ not (list_any (is_at (order x)) old.keys) → fresh ≡ true →
    after ≡ remove_key (is_at (order x)) put → after ≡ old.keys
taken_back old put after x fresh one is new gone =
    gone ∙ ap (remove_key (is_at (order x))) one
    ∙ taken_out old.keys x (said_is old x (list_any (is_at (order x)) old.keys) refl
    ∙ not-true (list_any (is_at (order x)) old.keys) (sym is ∙ new))

pub settled_more : (s : Saying) (bodies : List Body) (i : ℕ) (word d : Body) (before now : List Saying)
    (first : List Saying) → i < length bodies → word ≡ slice_index_or bodies i d
    → is_among now s ≡ (not (says s word) && is_among before s) →
    is_among before s ≡ (not (list_any (says s) (take i bodies)) && is_among first s)
    → is_among now s ≡ (not (list_any (says s) (take (i + 1) bodies)) && is_among first s)
settled_more s bodies i word d before now first lt at step was =
    step ∙ ap (λ b. not (says s word) && b) was
    ∙ both (says s word) (list_any (says s) (take i bodies)) (is_among first s)
    ∙ ap (λ b. not b && is_among first s)
    (sym (ap (list_any (says s)) (take_more bodies i d lt ∙ ap (λ w. take i bodies ++ w ∷ []) (sym at))
    ∙ list_any-append (says s) (take i bodies) (word ∷ [])))
  where
    both : (a b f : Bool) → (not a && (not b && f)) ≡ (not (b || (a || false)) && f)
    both true true f = refl
    both true false f = refl
    both false true f = refl
    both false false f = refl

pub opened : (bodies : List Body) (first : Body) → 1 ≤ length bodies → first ≡ slice_index_or bodies 0 first →
    bodies ≡ first ∷ take (length bodies - 1) (drop 1 bodies)
opened [] first some at = absurd (omega arith)
opened (word ∷ rest) first some at =
    let less : suc (length rest) - 1 ≡ length rest = omega arith in
    ap (λ w. w ∷ rest) (sym at) ∙ ap (λ l. first ∷ l) (sym (ap (λ n. take n rest) less ∙ take-length rest))
