-- Lists gone over from the front: what one element more adds.
use Rattle.std.proofs.Common.{◌≡◌, ℕ, ◌+◌, ◌-◌, zero, suc, ◌<◌, List, [], ◌∷◌, ◌++◌, Option}
use Rattle.std.proofs.Common.{Some, None, ◌≤◌, length, take, drop, get_or, refl, sym, ◌∙◌, ap, arith, add-one}
use Rattle.std.specs.List.{filter_map, cons_option}
use Rattle.std.proofs.lemmas.List.{take_all, get_or_default}
use Rattle.protocol_rules.specs.Words.{or_else, first_met}
use Rattle.protocol_rules.proofs.FirstMet.{met-again}
use Rattle.plain_lists.proofs.Lists.{left_more}

take-suc : {X : Type 0} (xs : List X) (i : ℕ) (x : X) → i < length xs → x ≡ get_or xs i x →
    take (suc i) xs ≡ take i xs ++ x ∷ []
take-suc [] i x below is = absurd (omega arith)
take-suc (y ∷ xs) zero x below is = ap (λ z. z ∷ []) (sym is)
take-suc (y ∷ xs) (suc i) x below is = ap (λ zs. y ∷ zs) (take-suc xs i x (omega arith) is)

pub take-next : {X : Type 0} (xs : List X) (i : ℕ) (x : X) → i < length xs → x ≡ get_or xs i x →
    take (i + 1) xs ≡ take i xs ++ x ∷ []
take-next xs i x below is = ap (λ n. take n xs) (add-one i) ∙ take-suc xs i x below is

-- the first of what a function gives, once it gave nothing before
pub first_none : {X Y : Type 0} (f : X → Option Y) (xs ys : List X) → filter_map f xs ≡ [] →
    filter_map f (xs ++ ys) ≡ filter_map f ys
first_none f [] ys none = refl
first_none {X} {Y} f (x ∷ xs) ys none = by (f x) none (first_none f xs ys)
  where
    by : (o : Option Y) → cons_option o (filter_map f xs) ≡ [] →
        (filter_map f xs ≡ [] → filter_map f (xs ++ ys) ≡ filter_map f ys) →
        cons_option o (filter_map f (xs ++ ys)) ≡ filter_map f ys
    by None e rest = rest e
    by (Some y) e rest = absurd (cc)

-- the beginnings of a list gone over one by one
abbrev pub met_from : {F X : Type 0} → (List F → Option X) → List F → ℕ → Option X
met_from met xs i = first_met met (take i xs) (drop i xs)

step : {F X : Type 0} (met : List F → Option X) (seen rest later more : List F) (x : F) → rest ≡ x ∷ later →
    more ≡ seen ++ x ∷ [] → met seen ≡ None → first_met met seen rest ≡ first_met met more later
unfolding first_met
step met seen rest later more x e f none = ap (first_met met seen) e
    ∙ ap (λ o. or_else o (first_met met (seen ++ x ∷ []) later)) none ∙ ap (λ zs. first_met met zs later) (sym f)

pub met-next : {F X : Type 0} (met : List F → Option X) (xs : List F) (i : ℕ) → i < length xs →
    met (take i xs) ≡ None → met_from met xs i ≡ met_from met xs (i + 1)
met-next met [] i below none = absurd (omega arith)
met-next met (y ∷ ys) i below none =
    let at : get_or (y ∷ ys) i y ≡ get_or (y ∷ ys) i (get_or (y ∷ ys) i y) =
    get_or_default (y ∷ ys) i y (get_or (y ∷ ys) i y) below in
    step met (take i (y ∷ ys)) (drop i (y ∷ ys)) (drop (i + 1) (y ∷ ys)) (take (i + 1) (y ∷ ys)) (get_or (y ∷ ys) i y)
    (left_more (y ∷ ys) i (get_or (y ∷ ys) i y) below at) (take-next (y ∷ ys) i (get_or (y ∷ ys) i y) below at) none

pub met-here : {F X : Type 0} (met : List F → Option X) (xs : List F) (i : ℕ) (x : X) → met (take i xs) ≡ Some x →
    met_from met xs i ≡ Some x
met-here met xs i x some = sym (met-again met (take i xs) (drop i xs)) ∙ ap (λ o. or_else o (met_from met xs i)) some

-- at the end the whole list is asked
pub met-end : {F X : Type 0} (met : List F → Option X) (xs : List F) (i : ℕ) → length xs ≤ i →
    met_from met xs i ≡ met xs
unfolding first_met
met-end {F} {X} met xs i over = ap (λ (zs : List F). first_met met (take i xs) zs) (none_left xs i over)
    ∙ ap met (take_all i xs over)
  where
    none_left : (zs : List F) (n : ℕ) → length zs ≤ n → drop n zs ≡ []
    none_left [] zero over = refl
    none_left [] (suc n) over = refl
    none_left (z ∷ zs) zero over = absurd (omega arith)
    none_left (z ∷ zs) (suc n) over = none_left zs n (omega arith)

pub met-start : {F X : Type 0} (met : List F → Option X) (xs : List F) → met_from met xs 0 ≡ first_met met [] xs
met-start met xs = refl
