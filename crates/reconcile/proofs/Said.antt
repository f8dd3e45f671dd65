-- What a body said changes.
use Rattle.std.proofs.Common.{◌≡◌, ℕ, Bool, true, false, cond, ◌&&◌, ◌||◌, not, List, [], ◌∷◌, ◌++◌, Option, Some}
use Rattle.std.proofs.Common.{None, nat_eq, refl, sym, ◌∙◌, ap}
use Rattle.std.specs.List.{list_any}
use Rattle.std.specs.Option.{option_map, IfSome}
use Rattle.std.proofs.lemmas.Bool.{and_parts, eqb-true}
use Rattle.std.proofs.lemmas.List.Folds.{list_any-append}
use Rattle.std.proofs.Math.Bool.{or-false}
use Rattle.message_types.specs.declared.signed.Signed.{Signed}
use Rattle.message_types.specs.declared.body.Body.{Body}
use Rattle.message_types.specs.declared.body.Body.TheVariants as body
use Rattle.protocol_rules.specs.Group.{Group}
use Rattle.protocol_rules.specs.Reconcile.{ask_update_due, ask_order_due}
use Rattle.reconcile.specs.declared.wanted.Wanted.{Wanted}
use Rattle.reconcile.specs.declared.wanted.Wanted.TheVariants.{Request, Number}
use Rattle.reconcile.specs.Asking.{ask_for, asks, gives, other_asks, is_place, same_wanted, is_among}
use Rattle.reconcile.specs.AskState.{AskState, AreAsksOf, request_at, new_ask, asks_for, is_one}

both_eq : (a b j k : ℕ) → (nat_eq a j && nat_eq b k) ≡ true → (i m : ℕ) →
    (nat_eq a i && nat_eq b m) ≡ (nat_eq j i && nat_eq k m)
both_eq a b j k e i m =
    let both : (nat_eq a j ≡ true) × (nat_eq b k ≡ true) = and_parts (nat_eq a j) (nat_eq b k) e in
    ap (λ v. nat_eq v i && nat_eq b m) (eqb-true a j both.0) ∙ ap (λ v. nat_eq j i && nat_eq v m) (eqb-true b k both.1)

-- a body that gives one gives no other, and asks for none
pub gives_one : (x w : Wanted) (word : Body) → gives x word ≡ true → gives w word ≡ same_wanted x w
gives_one (Request j k) (Request i m) word =
    elim word as (λ v. gives (Request j k) v ≡ true → gives (Request i m) v ≡ same_wanted (Request j k) (Request i m)) [
      | body.Give b ↦ λ e. both_eq b.request.signer b.request.body.k j k e i m
      | _ ↦ λ e. absurd (cc)
    ]
gives_one (Request j k) (Number s) word =
    elim word as (λ v. gives (Request j k) v ≡ true → gives (Number s) v ≡ false)
    [ body.Give b ↦ λ e. refl | _ ↦ λ e. absurd (cc) ]
gives_one (Number s) (Request j k) word =
    elim word as (λ v. gives (Number s) v ≡ true → gives (Request j k) v ≡ false)
    [ body.GiveOrdered b ↦ λ e. refl | _ ↦ λ e. absurd (cc) ]
gives_one (Number s) (Number t) word = elim word as (λ v. gives (Number s) v ≡ true → gives (Number t) v ≡ nat_eq s t)
    [ body.GiveOrdered b ↦ λ e. ap (λ v. nat_eq v t) (eqb-true b.s s e) | _ ↦ λ e. absurd (cc) ]

pub gives_no_ask : (x w : Wanted) (word : Body) → gives x word ≡ true → asks w word ≡ false
gives_no_ask (Request j k) (Request i m) word =
    elim word as (λ v. gives (Request j k) v ≡ true → asks (Request i m) v ≡ false)
    [ body.Give b ↦ λ e. refl | _ ↦ λ e. absurd (cc) ]
gives_no_ask (Request j k) (Number s) word =
    elim word as (λ v. gives (Request j k) v ≡ true → asks (Number s) v ≡ false)
    [ body.Give b ↦ λ e. refl | _ ↦ λ e. absurd (cc) ]
gives_no_ask (Number s) (Request i m) word =
    elim word as (λ v. gives (Number s) v ≡ true → asks (Request i m) v ≡ false)
    [ body.GiveOrdered b ↦ λ e. refl | _ ↦ λ e. absurd (cc) ]
gives_no_ask (Number s) (Number t) word = elim word as (λ v. gives (Number s) v ≡ true → asks (Number t) v ≡ false)
    [ body.GiveOrdered b ↦ λ e. refl | _ ↦ λ e. absurd (cc) ]

or_comm : (a b : Bool) → (a || (b || false)) ≡ (b || a)
or_comm true true = refl
or_comm true false = refl
or_comm false true = refl
or_comm false false = refl

given_bool : (s p a n : Bool) → cond s false (p && (a && not n)) ≡ (p && (a && not (s || n)))
given_bool false p a n = refl
given_bool true true true n = refl
given_bool true true false n = refl
given_bool true false a n = refl

pub given_said : (g : Group) (me : ℕ) (kept new : AskState) (known : List (Signed Body)) (said : List Body)
    (word : Body) (x : Wanted) → gives x word ≡ true
    → new.masters ≡ kept.masters → new.me ≡ kept.me → new.asked ≡ kept.asked →
    ((w : Wanted) → is_among new.given w ≡ (same_wanted x w || is_among kept.given w)) →
    ((w : Wanted) → is_among new.wanted w ≡ cond (same_wanted x w) false (is_among kept.wanted w))
    → AreAsksOf g me kept known said → AreAsksOf g me new known (said ++ word ∷ [])
given_said g me kept new known said word x gift masters own asked given wanted is = record {
  group = masters ∙ is.group;
  own = own ∙ is.own;
  wanted = λ w. wanted w ∙ ap (λ b. cond (same_wanted x w) false b) (is.wanted w) ∙ given_bool (same_wanted x w)
      (is_place g w) (list_any (other_asks me w) known) (list_any (gives w) said)
      ∙ ap (λ b. is_place g w && (list_any (other_asks me w) known && not b)) (sym (more w));
  given = λ w. given w ∙ ap (λ b. same_wanted x w || b) (is.given w) ∙ sym (more w);
  asked = λ w. ap (λ l. is_among l w) asked ∙ is.asked w
      ∙ sym (list_any-append (asks w) said (word ∷ []) ∙ ap (λ b. list_any (asks w) said || (b || false))
      (gives_no_ask x w word gift) ∙ or-false (list_any (asks w) said));
}
  where
    more : (w : Wanted) → list_any (gives w) (said ++ word ∷ []) ≡ (same_wanted x w || list_any (gives w) said)
    more w = list_any-append (gives w) said (word ∷ []) ∙ ap (λ b. list_any (gives w) said || (b || false))
        (gives_one x w word gift) ∙ or_comm (list_any (gives w) said) (same_wanted x w)

-- the bodies due
fresh_update : (at_tick was : Bool) (w : Wanted) → asks_for (cond (at_tick && not was) (Some w) None) ≡ cond
    (at_tick && not was) (ask_for w ∷ []) []
fresh_update true true w = refl
fresh_update true false w = refl
fresh_update false was w = refl

pub request_due : (g : Group) (me : ℕ) (kept : AskState) (known : List (Signed Body)) (said : List Body)
    (at_tick : Bool) (waiting : Option (ℕ × ℕ)) → AreAsksOf g me kept known said
    → asks_for (new_ask at_tick kept.asked (option_map (λ (at : ℕ × ℕ). Request at.0 at.1) waiting)) ≡ ask_update_due
    said at_tick (request_at waiting)
request_due g me kept known said at_tick None is = refl
request_due g me kept known said at_tick (Some at) is =
    fresh_update at_tick (is_among kept.asked (Request at.0 at.1)) (Request at.0 at.1)
    ∙ ap (λ b. cond (at_tick && not b) (ask_for (Request at.0 at.1) ∷ []) []) (is.asked (Request at.0 at.1))

pub number_due : (g : Group) (me : ℕ) (kept : AskState) (known : List (Signed Body)) (said : List Body)
    (at_tick : Bool) (gap : Option ℕ) → AreAsksOf g me kept known said
    → asks_for (new_ask at_tick kept.asked (option_map (λ (s : ℕ). Number s) gap)) ≡ ask_order_due said at_tick gap
number_due g me kept known said at_tick None is = refl
number_due g me kept known said at_tick (Some s) is =
    fresh_update at_tick (is_among kept.asked (Number s)) (Number s)
    ∙ ap (λ b. cond (at_tick && not b) (ask_for (Number s) ∷ []) []) (is.asked (Number s))

pub new_is_new : (at_tick : Bool) (asked : List Wanted) (o : Option Wanted) →
    IfSome (new_ask at_tick asked o) (λ w. is_among asked w ≡ false)
new_is_new at_tick asked None = tt
new_is_new at_tick asked (Some w) = at at_tick (is_among asked w) refl
  where
    at : (t b : Bool) → is_among asked w ≡ b → IfSome (cond (t && not b) (Some w) None) (λ v. is_among asked v ≡ false)
    at true true e = tt
    at true false e = e
    at false b e = tt

pub ask_of : (w x : Wanted) → (asks w (ask_for x) || false) ≡ same_wanted x w
ask_of (Request j k) (Request i m) = or-false (nat_eq i j && nat_eq m k)
ask_of (Request j k) (Number s) = refl
ask_of (Number s) (Request j k) = refl
ask_of (Number s) (Number t) = or-false (nat_eq t s)

pub ask_gives : (w x : Wanted) → (gives w (ask_for x) || false) ≡ false
ask_gives (Request j k) (Request i m) = refl
ask_gives (Request j k) (Number s) = refl
ask_gives (Number s) (Request j k) = refl
ask_gives (Number s) (Number t) = refl

asked_by : (w : Wanted) (o : Option Wanted) → list_any (asks w) (asks_for o) ≡ is_one o w
asked_by w None = refl
asked_by w (Some x) = ask_of w x

none_given : (w : Wanted) (o : Option Wanted) → list_any (gives w) (asks_for o) ≡ false
none_given w None = refl
none_given w (Some x) = ask_gives w x

or_three : (a b c : Bool) → (b || c || a) ≡ (a || (b || c))
or_three true true c = refl
or_three true false true = refl
or_three true false false = refl
or_three false true c = refl
or_three false false true = refl
or_three false false false = refl

pub asks_said : (g : Group) (me : ℕ) (kept new : AskState) (known : List (Signed Body)) (said : List Body)
    (first second : Option Wanted) (bodies : List Body) → bodies ≡ asks_for first ++ asks_for second
    → new.masters ≡ kept.masters → new.me ≡ kept.me → new.given ≡ kept.given → new.wanted ≡ kept.wanted →
    ((w : Wanted) → is_among new.asked w ≡ (is_one first w || is_one second w || is_among kept.asked w))
    → AreAsksOf g me kept known said → AreAsksOf g me new known (said ++ bodies)
asks_said g me kept new known said first second bodies b masters own given wanted asked is = record {
  group = masters ∙ is.group;
  own = own ∙ is.own;
  wanted = λ w. ap (λ l. is_among l w) wanted ∙ is.wanted w
      ∙ ap (λ t. is_place g w && (list_any (other_asks me w) known && not t)) (sym (same_given w));
  given = λ w. ap (λ l. is_among l w) given ∙ is.given w ∙ sym (same_given w);
  asked = λ w. asked w ∙ ap (λ t. is_one first w || is_one second w || t) (is.asked w)
      ∙ or_three (list_any (asks w) said) (is_one first w) (is_one second w) ∙ sym (more w);
}
  where
    same_given : (w : Wanted) → list_any (gives w) (said ++ bodies) ≡ list_any (gives w) said
    same_given w =
        list_any-append (gives w) said bodies ∙ ap (λ t. list_any (gives w) said || list_any (gives w) t) b
        ∙ ap (λ t. list_any (gives w) said || t) (list_any-append (gives w) (asks_for first) (asks_for second)
        ∙ ap (λ t. t || list_any (gives w) (asks_for second)) (none_given w first) ∙ none_given w second)
        ∙ or-false (list_any (gives w) said)

    more : (w : Wanted) → list_any (asks w) (said ++ bodies) ≡ (list_any (asks w) said
        || (is_one first w || is_one second w))
    more w =
        list_any-append (asks w) said bodies ∙ ap (λ t. list_any (asks w) said || list_any (asks w) t) b
        ∙ ap (λ t. list_any (asks w) said || t) (list_any-append (asks w) (asks_for first) (asks_for second)
        ∙ ap (λ t. t || list_any (asks w) (asks_for second)) (asked_by w first)
        ∙ ap (λ t. is_one first w || t) (asked_by w second))

pub two_pushed : (r n : Option Wanted) (none one two : List Body) → none ≡ [] → one ≡ none ++ asks_for r →
    two ≡ one ++ asks_for n → two ≡ asks_for r ++ asks_for n
two_pushed r n none one two e first second =
    second ∙ ap (λ xs. xs ++ asks_for n) (first ∙ ap (λ xs. xs ++ asks_for r) e)
