-- Tests, keys of maps, and choices between what was and what is taken.
use Rattle.std.proofs.Common.{◌≡◌, ℕ, Bool, true, false, cond, ◌&&◌, ◌||◌, List, [], ◌∷◌, ◌++◌, Option, Some, None}
use Rattle.std.proofs.Common.{nat_eq, is_some, refl, sym, ◌∙◌, ap, true≢false}
use Rattle.std.specs.List.{find, list_any}
use Rattle.std.specs.Option.{option_map}
use Rattle.std.specs.Str.{bytes_eq}
use Rattle.std.proofs.lemmas.Bool.{eq-eqb}
use Rattle.std.proofs.lemmas.List.Folds.{list_any-append}
use Rattle.std.proofs.lemmas.Slice.Eq.{bytes_eq-Decides}
use Rattle.std.proofs.Math.Bool.{or-false}
pub use Rattle.std.proofs.lemmas.Bool.{and_parts as and-parts, eqb-true as nat_eq-same}
use Rattle.protocol_rules.specs.Words.{or_else}
pub use Rattle.protocol_rules.proofs.Keys.{same_pair-same, same_vote-same}
use Rattle.global_order.specs.Index.{same_pair}
pub use Rattle.plain_lists.proofs.Booleans.{bytes_eq-swap as bytes-swap}
pub use Rattle.protocol_rules.proofs.FirstMet.{first_of_list-push, none_there, option_map-or_else, or_else-none}
pub use Rattle.protocol_rules.proofs.FirstMet.{stays, taken}

pub bytes-same : (a b : List ℕ) → bytes_eq a b ≡ true → a ≡ b
bytes-same a b e = (bytes_eq-Decides a b).0 e

pub bytes-alike : (a b : List ℕ) → a ≡ b → bytes_eq a b ≡ true
bytes-alike a b e = (bytes_eq-Decides a b).1 e

pub option_map-cond : {X Y : Type 0} (f : X → Y) (b : Bool) (x : X) →
    option_map f (cond b (Some x) None) ≡ cond b (Some (f x)) None
option_map-cond f true x = refl
option_map-cond f false x = refl

pub option_map-none : {X Y : Type 0} (f : X → Y) (o : Option X) → option_map f o ≡ None → o ≡ None
option_map-none f None e = refl
option_map-none f (Some x) e = absurd (true≢false (ap is_some e))

pub find-append : {X : Type 0} (p : X → Bool) (xs ys : List X) → find p (xs ++ ys) ≡ or_else (find p xs) (find p ys)
find-append p [] ys = refl
find-append p (x ∷ xs) ys = by (p x) (find-append p xs ys)
  where
    by : (b : Bool) → find p (xs ++ ys) ≡ or_else (find p xs) (find p ys) →
        cond b (Some x) (find p (xs ++ ys)) ≡ or_else (cond b (Some x) (find p xs)) (find p ys)
    by true more = refl
    by false more = more

pub find-some : {X : Type 0} (p : X → Bool) (xs : List X) → is_some (find p xs) ≡ list_any p xs
find-some p [] = refl
find-some p (x ∷ xs) = by (p x) (find-some p xs)
  where
    by : (b : Bool) → is_some (find p xs) ≡ list_any p xs → is_some (cond b (Some x) (find p xs)) ≡ (b || list_any p xs)
    by true more = refl
    by false more = more

-- what is found passes
pub find-passes : {X : Type 0} (p : X → Bool) (xs : List X) (x : X) → find p xs ≡ Some x → p x ≡ true
find-passes p [] x e = absurd (true≢false (sym (ap is_some e)))
find-passes p (y ∷ ys) x e = by (p y) refl e (find-passes p ys x)
  where
    by : (b : Bool) → p y ≡ b → cond b (Some y) (find p ys) ≡ Some x → (find p ys ≡ Some x → p x ≡ true) → p x ≡ true
    by true is found more = let same : y ≡ x = cc in ap p (sym same) ∙ is
    by false is found more = more found

pub list_any-push : {X : Type 0} (p : X → Bool) (xs : List X) (x : X) →
    list_any p (xs ++ x ∷ []) ≡ (list_any p xs || p x)
list_any-push p xs x = list_any-append p xs (x ∷ []) ∙ ap (λ b. list_any p xs || b) (or-false (p x))

pub nat_eq-own : (a : ℕ) (d : List ℕ) → (nat_eq a a && bytes_eq d d) ≡ true
nat_eq-own a d = ap (λ b. b && bytes_eq d d) (eq-eqb a a refl) ∙ bytes-alike d d refl

pub same_pair-own : (k : ℕ × ℕ) (d : List ℕ) → (same_pair k k && bytes_eq d d) ≡ true
same_pair-own k d = ap (λ b. (b && nat_eq k.1 k.1) && bytes_eq d d) (eq-eqb k.0 k.0 refl) ∙ nat_eq-own k.1 d
