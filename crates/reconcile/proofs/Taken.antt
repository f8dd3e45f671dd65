-- What a word known changes.
use Rattle.std.proofs.Common.{◌≡◌, ℕ, Bool, true, false, cond, ◌&&◌, ◌||◌, not, List, [], ◌∷◌, ◌++◌, Option, Some}
use Rattle.std.proofs.Common.{None, is_some, filter, nat_eq, refl, sym, ◌∙◌, ap}
use Rattle.std.specs.List.{list_any}
use Rattle.std.proofs.lemmas.List.Folds.{list_any-append}
use Rattle.std.proofs.Math.Bool.{and-false}
use Rattle.message_types.specs.declared.signed.Signed.{Signed}
use Rattle.message_types.specs.declared.body.Body.{Body}
use Rattle.message_types.specs.declared.body.Body.TheVariants as body
use Rattle.protocol_rules.specs.Group.{Group}
use Rattle.reconcile.specs.declared.wanted.Wanted.{Wanted}
use Rattle.reconcile.specs.declared.wanted.Wanted.TheVariants.{Request, Number}
use Rattle.reconcile.specs.Asking.{wanted_in, is_ask, asks, gives, other_asks, is_place, is_wanted, same_wanted}
use Rattle.reconcile.specs.Asking.{is_among}
use Rattle.reconcile.specs.AskState.{AskState, AreAsksOf, is_one}
use Rattle.reconcile.proofs.Order.{same_is}

pub asks_is : (w : Wanted) (word : Body) → asks w word ≡ is_one (wanted_in word) w
asks_is (Request j k) word = elim word as (λ v. asks (Request j k) v ≡ is_one (wanted_in v) (Request j k))
    [ body.AskUpdate b ↦ refl | body.AskOrder b ↦ refl | _ ↦ refl ]
asks_is (Number s) word = elim word as (λ v. asks (Number s) v ≡ is_one (wanted_in v) (Number s))
    [ body.AskUpdate b ↦ refl | body.AskOrder b ↦ refl | _ ↦ refl ]

pub other_is : (me : ℕ) (w : Wanted) (f : Signed Body) →
    other_asks me w f ≡ (not (nat_eq f.signer me) && is_one (wanted_in f.body) w)
other_is me (Request j k) f = ap (λ b. not (nat_eq f.signer me) && b) (asks_is (Request j k) f.body)
other_is me (Number s) f = ap (λ b. not (nat_eq f.signer me) && b) (asks_is (Number s) f.body)

more_bool : (p a o n : Bool) → (p && ((a || (o || false)) && n)) ≡ ((p && (o && n)) || (p && (a && n)))
more_bool false a o n = refl
more_bool true true true true = refl
more_bool true true true false = refl
more_bool true true false n = refl
more_bool true false true true = refl
more_bool true false true false = refl
more_bool true false false n = refl

pub wanted_more : (g : Group) (me : ℕ) (known : List (Signed Body)) (said : List Body) (f : Signed Body) (w : Wanted)
    → is_wanted g me (known ++ f ∷ [])
    said w ≡ ((is_place g w && (other_asks me w f && not (list_any (gives w) said))) || is_wanted g me known said w)
wanted_more g me known said f w =
    ap (λ b. is_place g w && (b && not (list_any (gives w) said))) (list_any-append (other_asks me w) known (f ∷ []))
    ∙ more_bool (is_place g w) (list_any (other_asks me w) known) (other_asks me w f) (not (list_any (gives w) said))

-- a word that asks for nothing that is new
pub passed : (g : Group) (me : ℕ) (kept : AskState) (known : List (Signed Body)) (said : List Body) (f : Signed Body)
    → ((w : Wanted) → (is_place g w && (other_asks me w f && not (list_any (gives w) said))) ≡ false)
    → AreAsksOf g me kept known said → AreAsksOf g me kept (known ++ f ∷ []) said
passed g me kept known said f nothing is = record {
  group = is.group;
  own = is.own;
  wanted = λ w. is.wanted w
      ∙ sym (wanted_more g me known said f w ∙ ap (λ b. b || is_wanted g me known said w) (nothing w));
  given = is.given;
  asked = is.asked;
}

no_ask : (g : Group) (me : ℕ) (said : List Body) (f : Signed Body) (w : Wanted) → other_asks me w f ≡ false →
    (is_place g w && (other_asks me w f && not (list_any (gives w) said))) ≡ false
no_ask g me said f w none = ap (λ b. is_place g w && (b && not (list_any (gives w) said))) none
    ∙ and-false (is_place g w)

-- a word of its own
pub own_passed : (g : Group) (me : ℕ) (kept : AskState) (known : List (Signed Body)) (said : List Body)
    (f : Signed Body) → nat_eq f.signer kept.me ≡ true → AreAsksOf g me kept known said →
    AreAsksOf g me kept (known ++ f ∷ []) said
own_passed g me kept known said f own is =
    passed g me kept known said f
    (λ w. no_ask g me said f w (other_is me w f ∙ ap (λ b. not b && is_one (wanted_in f.body) w)
    (ap (λ m. nat_eq f.signer m) (sym is.own) ∙ own))) is

-- a word of another kind
pub kind_passed : (g : Group) (me : ℕ) (kept : AskState) (known : List (Signed Body)) (said : List Body)
    (f : Signed Body) → wanted_in f.body ≡ None → AreAsksOf g me kept known said →
    AreAsksOf g me kept (known ++ f ∷ []) said
kind_passed g me kept known said f none is =
    passed g me kept known said f
    (λ w. no_ask g me said f w (other_is me w f ∙ ap (λ o. not (nat_eq f.signer me) && is_one o w) none
    ∙ and-false (not (nat_eq f.signer me)))) is

-- by whether it is the one asked for
by_same : (me : ℕ) (f : Signed Body) (x : Wanted) → wanted_in f.body ≡ Some x → (w : Wanted) →
    other_asks me w f ≡ (not (nat_eq f.signer me) && same_wanted x w)
by_same me f x e w = other_is me w f ∙ ap (λ o. not (nat_eq f.signer me) && is_one o w) e

-- an ask for what has no place
pub place_passed : (g : Group) (me : ℕ) (kept : AskState) (known : List (Signed Body)) (said : List Body)
    (f : Signed Body) (x : Wanted) → wanted_in f.body ≡ Some x → is_place g x ≡ false →
    AreAsksOf g me kept known said → AreAsksOf g me kept (known ++ f ∷ []) said
place_passed g me kept known said f x e none is = passed g me kept known said f (λ w. at w (same_wanted x w) refl) is
  where
    at : (w : Wanted) (same : Bool) → same_wanted x w ≡ same →
        (is_place g w && (other_asks me w f && not (list_any (gives w) said))) ≡ false
    at w true s = ap (λ b. b && (other_asks me w f && not (list_any (gives w) said)))
        (ap (λ v. is_place g v) (sym (same_is x w s)) ∙ none)
    at w false s = no_ask g me said f w (by_same me f x e w ∙ ap (λ b. not (nat_eq f.signer me) && b) s
        ∙ and-false (not (nat_eq f.signer me)))

-- an ask for what was given
pub given_passed : (g : Group) (me : ℕ) (kept : AskState) (known : List (Signed Body)) (said : List Body)
    (f : Signed Body) (x : Wanted) → wanted_in f.body ≡ Some x → is_among kept.given x ≡ true →
    AreAsksOf g me kept known said → AreAsksOf g me kept (known ++ f ∷ []) said
given_passed g me kept known said f x e was is = passed g me kept known said f (λ w. at w (same_wanted x w) refl) is
  where
    at : (w : Wanted) (same : Bool) → same_wanted x w ≡ same →
        (is_place g w && (other_asks me w f && not (list_any (gives w) said))) ≡ false
    at w true s =
        ap (λ b. is_place g w && (other_asks me w f && not b))
        (ap (λ v. list_any (gives v) said) (sym (same_is x w s)) ∙ sym (is.given x) ∙ was)
        ∙ ap (λ b. is_place g w && b) (and-false (other_asks me w f)) ∙ and-false (is_place g w)
    at w false s = no_ask g me said f w (by_same me f x e w ∙ ap (λ b. not (nat_eq f.signer me) && b) s
        ∙ and-false (not (nat_eq f.signer me)))

-- an ask for what wasn't given
pub taken : (g : Group) (me : ℕ) (kept new : AskState) (known : List (Signed Body)) (said : List Body)
    (f : Signed Body) (x : Wanted) → wanted_in f.body ≡ Some x
    → nat_eq f.signer kept.me ≡ false → is_place g x ≡ true → is_among kept.given x ≡ false
    → new.masters ≡ kept.masters → new.me ≡ kept.me → new.given ≡ kept.given → new.asked ≡ kept.asked →
    ((w : Wanted) → is_among new.wanted w ≡ (same_wanted x w || is_among kept.wanted w))
    → AreAsksOf g me kept known said → AreAsksOf g me new (known ++ f ∷ []) said
taken g me kept new known said f x e other place fresh masters own given asked wanted is = record {
  group = masters ∙ is.group;
  own = own ∙ is.own;
  wanted = λ w. wanted w ∙ ap (λ b. b || is_among kept.wanted w) (sym (at w (same_wanted x w) refl))
      ∙ ap (λ b. (is_place g w && (other_asks me w f && not (list_any (gives w) said))) || b) (is.wanted w)
      ∙ sym (wanted_more g me known said f w);
  given = λ w. ap (λ l. is_among l w) given ∙ is.given w;
  asked = λ w. ap (λ l. is_among l w) asked ∙ is.asked w;
}
  where
    others : nat_eq f.signer me ≡ false
    others = ap (λ m. nat_eq f.signer m) (sym is.own) ∙ other

    at : (w : Wanted) (same : Bool) → same_wanted x w ≡ same →
        (is_place g w && (other_asks me w f && not (list_any (gives w) said))) ≡ same_wanted x w
    at w true s =
        ap (λ b. is_place g w && (b && not (list_any (gives w) said)))
        (by_same me f x e w ∙ ap (λ b. not b && same_wanted x w) others ∙ s)
        ∙ ap (λ b. b && not (list_any (gives w) said)) (ap (λ v. is_place g v) (sym (same_is x w s)) ∙ place)
        ∙ ap not (ap (λ v. list_any (gives v) said) (sym (same_is x w s)) ∙ sym (is.given x) ∙ fresh) ∙ sym s
    at w false s = no_ask g me said f w (by_same me f x e w ∙ ap (λ b. not (nat_eq f.signer me) && b) s
        ∙ and-false (not (nat_eq f.signer me))) ∙ sym s

-- only asks count
not_an_ask : (me : ℕ) (w : Wanted) (f : Signed Body) → is_ask f ≡ false → other_asks me w f ≡ false
not_an_ask me w f none = other_is me w f ∙ at (wanted_in f.body) none
  where
    at : (o : Option Wanted) → is_some o ≡ false → (not (nat_eq f.signer me) && is_one o w) ≡ false
    at None e = and-false (not (nat_eq f.signer me))
    at (Some x) e = absurd (cc)

asks_alone : (me : ℕ) (w : Wanted) (known : List (Signed Body)) →
    list_any (other_asks me w) (filter is_ask known) ≡ list_any (other_asks me w) known
asks_alone me w [] = refl
asks_alone me w (f ∷ rest) = at (is_ask f) refl (asks_alone me w rest)
  where
    at : (b : Bool) → is_ask f ≡ b → list_any (other_asks me w) (filter is_ask rest) ≡ list_any (other_asks me w)
        rest → list_any (other_asks me w) (filter is_ask (f ∷ rest)) ≡ list_any (other_asks me w) (f ∷ rest)
    at true e more = ap (λ t. list_any (other_asks me w) (cond t (f ∷ filter is_ask rest) (filter is_ask rest))) e
        ∙ ap (λ t. other_asks me w f || t) more
    at false e more = ap (λ t. list_any (other_asks me w) (cond t (f ∷ filter is_ask rest) (filter is_ask rest))) e
        ∙ more ∙ ap (λ t. t || list_any (other_asks me w) rest) (sym (not_an_ask me w f e))

pub only_asks : (g : Group) (me : ℕ) (kept : AskState) (known : List (Signed Body)) (said : List Body) →
    AreAsksOf g me kept (filter is_ask known) said → AreAsksOf g me kept known said
only_asks g me kept known said is = record {
  group = is.group;
  own = is.own;
  wanted = λ w. is.wanted w ∙ ap (λ b. is_place g w && (b && not (list_any (gives w) said))) (asks_alone me w known);
  given = is.given;
  asked = is.asked;
}

-- only the asks and gifts of what was said count
pub only_said : (g : Group) (me : ℕ) (kept : AskState) (known : List (Signed Body)) (said other : List Body) →
    ((w : Wanted) → list_any (asks w) other ≡ list_any (asks w) said) →
    ((w : Wanted) → list_any (gives w) other ≡ list_any (gives w) said)
    → AreAsksOf g me kept known said → AreAsksOf g me kept known other
only_said g me kept known said other a b is = record {
  group = is.group;
  own = is.own;
  wanted = λ w. is.wanted w ∙ ap (λ t. is_place g w && (list_any (other_asks me w) known && not t)) (sym (b w));
  given = λ w. is.given w ∙ sym (b w);
  asked = λ w. is.asked w ∙ sym (a w);
}
