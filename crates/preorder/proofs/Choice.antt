-- Choices between what a map had and what it takes.
use Rattle.std.proofs.Common.{◌≡◌, ℕ, Bool, true, false, cond, ◌&&◌, ◌||◌, List, [], ◌∷◌, ◌++◌, Option, Some}
use Rattle.std.proofs.Common.{nat_eq, refl, ◌∙◌, ap}
use Rattle.std.specs.List.{filter_map, find, list_any, cons_option}
use Rattle.std.specs.Str.{bytes_eq}
use Rattle.std.proofs.lemmas.List.Elements.{filter_map-append}
use Rattle.std.proofs.lemmas.List.Folds.{list_any-append}
use Rattle.std.proofs.lemmas.Slice.Eq.{bytes_eq-Decides}
use Rattle.std.proofs.Math.Bool.{or-false}
use Rattle.std.proofs.lemmas.Bool.{and_parts, eqb-true}
use Rattle.protocol_rules.specs.Words.{or_else}
use Rattle.preorder.specs.Index.{same_ballot}

pub same_ballot-same : (x y : ℕ × ℕ × List ℕ) → same_ballot x y ≡ true → x ≡ y
same_ballot-same x y e =
    let parts = and_parts (nat_eq x.0 y.0 && nat_eq x.1 y.1) (bytes_eq x.2 y.2) e in
    let pair = and_parts (nat_eq x.0 y.0) (nat_eq x.1 y.1) parts.0 in
    let first = eqb-true x.0 y.0 pair.0 in
    let second = eqb-true x.1 y.1 pair.1 in
    let third = (bytes_eq-Decides x.2 y.2).0 parts.1 in
    λ i. (first i, second i, third i)

find-alone : {X : Type 0} (p : X → Bool) (xs : List X) (o : Option X) →
    find p (xs ++ cons_option o []) ≡ or_else (find p xs) (find p (cons_option o []))
find-alone p [] o = refl
find-alone p (x ∷ xs) o = by (p x) (find-alone p xs o)
  where
    by : (b : Bool) → find p (xs ++ cons_option o []) ≡ or_else (find p xs) (find p (cons_option o [])) →
        cond b (Some x) (find p (xs ++ cons_option o [])) ≡ or_else (cond b (Some x) (find p xs))
        (find p (cons_option o []))
    by true more = refl
    by false more = more

-- the first that passes among what a list gives, with one more given
pub find-push : {F X : Type 0} (p : X → Bool) (f : F → Option X) (xs : List F) (x : F) →
    find p (filter_map f (xs ++ x ∷ [])) ≡ or_else (find p (filter_map f xs)) (find p (cons_option (f x) []))
find-push p f xs x = ap (find p) (filter_map-append f xs (x ∷ [])) ∙ find-alone p (filter_map f xs) (f x)

pub list_any-push : {X : Type 0} (p : X → Bool) (xs : List X) (x : X) →
    list_any p (xs ++ x ∷ []) ≡ (list_any p xs || p x)
list_any-push p xs x = list_any-append p xs (x ∷ []) ∙ ap (λ b. list_any p xs || b) (or-false (p x))
