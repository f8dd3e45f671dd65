-- What one more word changes in what the words of a master tell.
use Rattle.std.proofs.Common.{◌≡◌, ℕ, Bool, true, false, cond, List, [], ◌∷◌, ◌++◌, Option, Some, None, max, nat_lt}
use Rattle.std.proofs.Common.{refl, ◌∙◌, ap}
use Rattle.std.specs.List.{filter_map, cons_option}
use Rattle.std.specs.Option.{option_to_list}
use Rattle.std.proofs.lemmas.List.{append-nil}
use Rattle.std.proofs.lemmas.List.Elements.{filter_map-append}
use Rattle.message_types.specs.declared.measures.Rtt.{Rtt}
use Rattle.protocol_rules.specs.Words.{greatest_of, first_of_list, best_by, best_from, or_else}
use Rattle.suspect_leader.specs.MeasureState.{later_of}
use Rattle.protocol_rules.proofs.Greatest.{greatest_of-push}

pub one_told : {X Y : Type 0} (p : X → Option Y) (x : X) (o : Option Y) → p x ≡ o →
    filter_map p (x ∷ []) ≡ option_to_list o
one_told {Y = Y} p x None e = ap (λ (v : Option Y). cons_option v []) e
one_told {Y = Y} p x (Some y) e = ap (λ (v : Option Y). cons_option v []) e

pub told_after : {X Y : Type 0} (p : X → Option Y) (xs : List X) (x : X) (o : Option Y) → p x ≡ o →
    filter_map p (xs ++ x ∷ []) ≡ filter_map p xs ++ option_to_list o
told_after p xs x o e = filter_map-append p xs (x ∷ []) ∙ ap (λ l. filter_map p xs ++ l) (one_told p x o e)

pub same_after : {X Y : Type 0} (p : X → Option Y) (xs : List X) (x : X) → p x ≡ None →
    filter_map p (xs ++ x ∷ []) ≡ filter_map p xs
same_after p xs x e = told_after p xs x None e ∙ append-nil (filter_map p xs)

pub greatest_if : (xs : List ℕ) (b : Bool) (x : ℕ) →
    greatest_of (xs ++ option_to_list (cond b (Some x) None)) ≡ cond b (max (greatest_of xs) x) (greatest_of xs)
greatest_if xs true x = greatest_of-push xs x
greatest_if xs false x = ap greatest_of (append-nil xs)

pub first_more : {X : Type 0} (xs : List X) (o : Option X) →
    first_of_list (xs ++ option_to_list o) ≡ or_else (first_of_list xs) o
first_more [] None = refl
first_more [] (Some x) = refl
first_more (y ∷ rest) o = refl

abbrev pub later_trip : Rtt → Rtt → Bool
later_trip a b = nat_lt b.number a.number

best_on : (best : Rtt) (rest : List Rtt) (x : Rtt) → best_from later_trip best (rest ++ x ∷ []) ≡ later_of
    (Some (best_from later_trip best rest)) x
best_on best [] x = refl
best_on best (y ∷ rest) x = best_on (cond (later_trip y best) y best) rest x

pub best_more : (xs : List Rtt) (x : Rtt) →
    best_by later_trip (xs ++ x ∷ []) ≡ Some (later_of (best_by later_trip xs) x)
unfolding best_by
best_more [] x = refl
best_more (y ∷ rest) x = ap Some (best_on y rest x)
