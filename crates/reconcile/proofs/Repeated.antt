-- What is asked for again: bodies that ask for each of a list, and a set that counts them.
use Rattle.std.proofs.Common.{◌≡◌, ℕ, zero, suc, cond, ◌-◌, ◌≤◌, Bool, true, false, ◌&&◌, ◌||◌, not, List, [], ◌∷◌, ◌++◌, length, map, filter}
use Rattle.std.proofs.Common.{take, drop, get_or, refl, sym, ◌∙◌, ap, arith}
use Rattle.std.specs.List.{list_any}
use Rattle.std.specs.BTreeSet.{BTreeSet, insert_key, Updates}
use Rattle.std.specs.BTreeMap.{is_at}
use Rattle.std.specs.Set.{remove_key}
use Rattle.std.proofs.lemmas.Bool.{not-true}
use Rattle.std.proofs.lemmas.List.{take_all}
use Rattle.std.proofs.lemmas.List.Folds.{list_any-append}
use Rattle.std.proofs.Math.Bool.{or-false}
use Rattle.std.proofs.Math.Seq.{take-length}
use Rattle.message_types.specs.declared.signed.Signed.{Signed}
use Rattle.message_types.specs.declared.body.Body.{Body}
use Rattle.message_types.specs.declared.body.Body.TheVariants as body
use Rattle.protocol_rules.specs.Group.{Group}
use Rattle.protocol_rules.specs.Execution.{Request as Eligible}
use Rattle.protocol_rules.specs.Reconcile.{updates_asked, orders_asked}
use Rattle.reconcile.specs.declared.wanted.Wanted.{Wanted}
use Rattle.reconcile.specs.declared.wanted.Wanted.TheVariants.{Request, Number}
use Rattle.reconcile.specs.Asking.{ask_for, asks, gives, other_asks, is_place, same_wanted, is_among}
use Rattle.reconcile.specs.AskState.{AskState, AreAsksOf}
use Rattle.protocol_rules.specs.Patience.{is_beat}
use Rattle.protocol_rules.specs.Lacking.{may_ask}
use Rattle.reconcile.specs.Again.{is_one_of, is_due_kept, asks_again_due}
use Rattle.reconcile.proofs.Order.{order}
use Rattle.reconcile.proofs.Sets.{among_is, among_put, remove_put, put_is}
use Rattle.reconcile.proofs.Said.{ask_of, ask_gives}

-- what the bodies ask for, and that they give nothing
asked_each : (due : List Wanted) (w : Wanted) → list_any (asks w) (map ask_for due) ≡ is_one_of due w
asked_each [] w = refl
asked_each (x ∷ rest) w =
    ap (λ b. b || list_any (asks w) (map ask_for rest)) (sym (or-false (asks w (ask_for x))) ∙ ask_of w x)
    ∙ ap (λ b. same_wanted x w || b) (asked_each rest w)

given_none : (due : List Wanted) (w : Wanted) → list_any (gives w) (map ask_for due) ≡ false
given_none [] w = refl
given_none (x ∷ rest) w =
    ap (λ b. b || list_any (gives w) (map ask_for rest)) (sym (or-false (gives w (ask_for x))) ∙ ask_gives w x)
    ∙ given_none rest w

-- one more counted
pub counted_more : (old put : BTreeSet Wanted) (new : List Wanted) (x w : Wanted) (rest : List Wanted) →
    Updates order old put x true → is_among new w ≡ (is_one_of rest w || is_among put.keys w) →
    is_among new w ≡ (is_one_of (x ∷ rest) w || is_among old.keys w)
counted_more old put new x w rest u more =
    more ∙ ap (λ b. is_one_of rest w || b) (among_put old put x w u)
    ∙ front (same_wanted x w) (is_one_of rest w) (is_among old.keys w)
  where
    front : (a b c : Bool) → (b || (a || c)) ≡ ((a || b) || c)
    front true true c = refl
    front true false c = refl
    front false true c = refl
    front false false c = refl

-- taken back after want of memory
pub taken_back : (old : BTreeSet Wanted) (put after : List Wanted) (x : Wanted) (fresh : Bool) →
    put ≡ insert_key order old.keys x → fresh ≡ not (list_any (is_at (order x)) old.keys) → fresh ≡ true →
    after ≡ remove_key (is_at (order x)) put → after ≡ old.keys
taken_back old put after x fresh one is new gone =
    gone ∙ ap (remove_key (is_at (order x))) (one ∙ put_is old.keys x)
    ∙ remove_put old.keys x (sym (among_is old.keys x) ∙ not-true (list_any (is_at (order x)) old.keys) (sym is ∙ new))

pub opened : (list : List Wanted) (d : Wanted) → 1 ≤ length list →
    list ≡ get_or list 0 d ∷ take (length list - 1) (drop 1 list)
opened [] d some = absurd (omega arith)
opened (w ∷ rest) d some =
    let less : suc (length rest) - 1 ≡ length rest = omega arith in
    ap (λ l. w ∷ l) (sym (ap (λ n. take n rest) less ∙ take-length rest))

-- the asks where these are said too
pub said_again : (g : Group) (me : ℕ) (kept new : AskState) (known : List (Signed Body)) (said bodies : List Body)
    (due : List Wanted) → bodies ≡ map ask_for due → new.masters ≡ kept.masters → new.me ≡ kept.me →
    new.given ≡ kept.given → new.wanted ≡ kept.wanted →
    ((w : Wanted) → is_among new.asked w ≡ (is_one_of due w || is_among kept.asked w)) →
    AreAsksOf g me kept known said → AreAsksOf g me new known (said ++ bodies)
said_again g me kept new known said bodies due b masters own given wanted asked is = record {
  group = masters ∙ is.group;
  own = own ∙ is.own;
  wanted = λ w. ap (λ l. is_among l w) wanted ∙ is.wanted w
      ∙ ap (λ t. is_place g w && (list_any (other_asks me w) known && not t)) (sym (same_given w));
  given = λ w. ap (λ l. is_among l w) given ∙ is.given w ∙ sym (same_given w);
  asked = λ w. asked w ∙ ap (λ t. is_one_of due w || t) (is.asked w)
      ∙ turned (is_one_of due w) (list_any (asks w) said) ∙ sym (more w);
}
  where
    turned : (a b : Bool) → (a || b) ≡ (b || a)
    turned true true = refl
    turned true false = refl
    turned false true = refl
    turned false false = refl

    same_given : (w : Wanted) → list_any (gives w) (said ++ bodies) ≡ list_any (gives w) said
    same_given w =
        list_any-append (gives w) said bodies ∙ ap (λ t. list_any (gives w) said || list_any (gives w) t) b
        ∙ ap (λ t. list_any (gives w) said || t) (given_none due w) ∙ or-false (list_any (gives w) said)

    more : (w : Wanted) → list_any (asks w) (said ++ bodies) ≡ (list_any (asks w) said || is_one_of due w)
    more w =
        list_any-append (asks w) said bodies ∙ ap (λ t. list_any (asks w) said || list_any (asks w) t) b
        ∙ ap (λ t. list_any (asks w) said || t) (asked_each due w)

-- what is due by what was asked for is due by what was said
pub due_same : (g : Group) (me : ℕ) (kept : AskState) (known : List (Signed Body)) (said : List Body)
    (asked : List Wanted) (now : ℕ) (lacking : List Wanted) → asked ≡ kept.asked → AreAsksOf g me kept known said →
    filter (is_due_kept asked now) lacking ≡ filter (λ w. may_ask said now (asks w)) lacking
due_same g me kept known said asked now lacking same is =
    ap (λ l. filter (is_due_kept l now) lacking) same ∙ (λ i. filter (λ w. is_beat now || not (is.asked w i)) lacking)

-- Asks by what is wanted are asks by the requests, or by the numbers, that are wanted.
filter_mapped : {X Y : Type 0} (p : Y → Bool) (h : X → Y) (xs : List X) →
    filter p (map h xs) ≡ map h (filter (λ x. p (h x)) xs)
filter_mapped p h [] = refl
filter_mapped {X} {Y} p h (x ∷ rest) = by (p (h x)) (filter_mapped p h rest)
  where
    by : (b : Bool) → filter p (map h rest) ≡ map h (filter (λ y. p (h y)) rest) →
        cond b (h x ∷ filter p (map h rest)) (filter p (map h rest))
        ≡ map h (cond b (x ∷ filter (λ y. p (h y)) rest) (filter (λ y. p (h y)) rest))
    by true more = ap (λ ys. h x ∷ ys) more
    by false more = more

take_mapped : {X Y : Type 0} (h : X → Y) (k : ℕ) (xs : List X) → take k (map h xs) ≡ map h (take k xs)
take_mapped h zero xs = refl
take_mapped h (suc k) [] = refl
take_mapped h (suc k) (x ∷ rest) = ap (λ ys. h x ∷ ys) (take_mapped h k rest)

map_mapped : {X Y Z : Type 0} (f : Y → Z) (h : X → Y) (xs : List X) → map f (map h xs) ≡ map (λ x. f (h x)) xs
map_mapped f h [] = refl
map_mapped f h (x ∷ rest) = ap (λ zs. f (h x) ∷ zs) (map_mapped f h rest)

few_pass : {X : Type 0} (p : X → Bool) (xs : List X) → length (filter p xs) ≤ length xs
few_pass p [] = omega arith
few_pass {X} p (x ∷ rest) = by (p x) (few_pass p rest)
  where
    by : (b : Bool) → length (filter p rest) ≤ length rest →
        length (cond b (x ∷ filter p rest) (filter p rest)) ≤ suc (length rest)
    by true less = omega arith
    by false less = omega arith

pub asks_mapped : {X : Type 0} (h : X → Wanted) (said : List Body) (now most : ℕ) (xs : List X) →
    asks_again_due said now (map h xs) most
    ≡ map (λ x. ask_for (h x)) (take most (filter (λ x. may_ask said now (asks (h x))) xs))
asks_mapped h said now most xs =
    ap (λ ws. map ask_for (take most ws)) (filter_mapped (λ w. may_ask said now (asks w)) h xs)
    ∙ ap (map ask_for) (take_mapped h most (filter (λ x. may_ask said now (asks (h x))) xs))
    ∙ map_mapped ask_for h (take most (filter (λ x. may_ask said now (asks (h x))) xs))

pub order_asks : (said : List Body) (now : ℕ) (numbers : List ℕ) → length numbers ≤ 64 →
    asks_again_due said now (map (λ s. Number s) numbers) 64
    ≡ map (λ s. body.AskOrder record { s = s }) (filter (λ s. may_ask said now (orders_asked s)) numbers)
order_asks said now numbers few =
    let less : length (filter (λ s. may_ask said now (orders_asked s)) numbers) ≤ length numbers =
    few_pass (λ s. may_ask said now (orders_asked s)) numbers in
    asks_mapped (λ s. Number s) said now 64 numbers
    ∙ ap (map (λ s. body.AskOrder record { s = s }))
    (take_all 64 (filter (λ s. may_ask said now (orders_asked s)) numbers) (omega arith))

pub update_asks : (said : List Body) (now : ℕ) (requests : List Eligible) →
    asks_again_due said now (map (λ r. Request r.j r.k) requests) 16
    ≡ map (λ r. body.AskUpdate record { j = r.j; k = r.k })
    (take 16 (filter (λ r. may_ask said now (updates_asked r.j r.k)) requests))
update_asks said now requests = asks_mapped (λ (r : Eligible). Request r.j r.k) said now 16 requests
