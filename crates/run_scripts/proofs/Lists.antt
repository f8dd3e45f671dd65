-- Lists that are tested, joined and changed at a place.
use Rattle.std.proofs.Common.{◌≡◌, ℕ, ◌+◌, ◌*◌, ◌<◌, Bool, true, false, cond, List, [], ◌∷◌}
use Rattle.std.proofs.Common.{◌++◌, length, map, filter, drop, get_or, refl, sym}
use Rattle.std.proofs.Common.{◌∙◌, ap, arith}
use Rattle.std.specs.List.{list_all, flat_map}
use Rattle.std.proofs.lemmas.Bool.{and_parts}
use Rattle.std.proofs.lemmas.List.{map_push}
use Rattle.quorum_sets.specs.Masters.{numbers_below}
use Rattle.quorum_sets.proofs.Numbered.{below_one_more}
use Rattle.plain_lists.proofs.Lists.{left_more}
use Rattle.world_history.proofs.Lists.{all_join}

pub all_flat : {X Y : Type 0} (f : Y → Bool) (g : X → List Y) (xs : List X) →
    list_all (λ x. list_all f (g x)) xs ≡ true → list_all f (flat_map g xs) ≡ true
all_flat f g [] all = refl
all_flat f g (x ∷ xs) all =
    let parts = and_parts (list_all f (g x)) (list_all (λ y. list_all f (g y)) xs) all in
    all_join f (g x) (flat_map g xs) parts.0 (all_flat f g xs parts.1)

pub filter_none : {X : Type 0} (f : X → Bool) (x : X) → f x ≡ false → filter f (x ∷ []) ≡ []
filter_none f x h = ap (λ b. cond b (x ∷ []) []) h

pub filter_one : {X : Type 0} (f : X → Bool) (x : X) → f x ≡ true → filter f (x ∷ []) ≡ x ∷ []
filter_one f x h = ap (λ b. cond b (x ∷ []) []) h

-- where the place of a slot is told by the actor and the kind
pub one_slot : (a b k j : ℕ) → k < 22 → j < 22 → 22 * a + k ≡ 22 * b + j → (a ≡ b) × (k ≡ j)
one_slot a b k j below under same = (omega arith, omega arith)

-- of what is left from a place on, the element there and the rest
pub all_left : {X : Type 0} (p : X → Bool) (xs : List X) (i : ℕ) (x : X) → i < length xs → x ≡ get_or xs i x →
    list_all p (drop i xs) ≡ true
    → (p x ≡ true) × (list_all p (drop (i + 1) xs) ≡ true)
all_left p xs i x below is all =
    and_parts (p x) (list_all p (drop (i + 1) xs)) (ap (list_all p) (sym (left_more xs i x below is)) ∙ all)

pub map_numbers_next : {X : Type 0} (f : ℕ → X) (n : ℕ) (x : X) → x ≡ f n → map f (numbers_below n)
    ++ x ∷ [] ≡ map f (numbers_below (n + 1))
map_numbers_next f n x is =
    ap (λ y. map f (numbers_below n) ++ y ∷ []) is ∙ sym (map_push f (numbers_below n) n)
    ∙ ap (map f) (sym (below_one_more n))
