-- Votes: counting them master by master, and that a quorum stays one.
use Rattle.std.proofs.Common.{◌≡◌, ℕ, ◌+◌, ◌<◌, zero, suc, Bool, true, false, cond, List, [], ◌∷◌, Option, Some, None}
use Rattle.std.proofs.Common.{length, take, filter, get_or, refl, sym, ◌∙◌, ap, arith, add-one, length-append}
use Rattle.std.specs.List.{filter_map, cons_option}
use Rattle.std.proofs.lemmas.List.Elements.{filter-append}
use Rattle.quorum_sets.specs.Masters.{numbers_below, voters}
use Rattle.quorum_sets.proofs.MastersLemmas.{numbers_below-suc}
use Rattle.protocol_rules.specs.Words.{first_of_list}
use Rattle.intruder_words.proofs.Walks.{take-next, first_none}

pub voters-none : (test : ℕ → Bool) → length (voters test 0) ≡ 0
unfolding numbers_below
voters-none test = refl

pub voters-next : (test : ℕ → Bool) (n : ℕ) → length (voters test (n + 1)) ≡ length (voters test n) + cond (test n) 1 0
voters-next test n =
    ap (λ k. length (voters test k)) (add-one n) ∙ ap (λ ns. length (filter test ns)) (numbers_below-suc n)
    ∙ ap length (filter-append test (numbers_below n) (n ∷ []))
    ∙ length-append (voters test n) (filter test (n ∷ [])) ∙ ap (λ k. length (voters test n) + k) (one (test n))
  where
    one : (b : Bool) → length (cond b (n ∷ []) []) ≡ cond b 1 0
    one true = refl
    one false = refl

-- the first vote, found by going over the facts
pub votes-none : {E X : Type 0} (f : E → Option X) (xs : List E) (i : ℕ) (x : E) → i < length xs → x ≡ get_or xs i x →
    filter_map f (take i xs) ≡ [] → f x ≡ None → filter_map f (take (i + 1) xs) ≡ []
votes-none f xs i x below is so_far none =
    ap (filter_map f) (take-next xs i x below is) ∙ first_none f (take i xs) (x ∷ []) so_far
    ∙ ap (λ o. cons_option o []) none

pub vote-found : {E X : Type 0} (f : E → Option X) (xs : List E) (i : ℕ) (x : E) (y : X) → i < length xs →
    x ≡ get_or xs i x → filter_map f (take i xs) ≡ [] → f x ≡ Some y → first_of_list (filter_map f xs) ≡ Some y
vote-found f [] i x y below is so_far here = absurd (omega arith)
vote-found {E} {X} f (z ∷ xs) zero x y below is so_far here =
    ap (λ (o : Option X). first_of_list (cons_option o (filter_map f xs))) (ap f (sym is) ∙ here)
vote-found {E} {X} f (z ∷ xs) (suc i) x y below is so_far here =
    by (f z) so_far (λ e. vote-found f xs i x y (omega arith) is e here)
  where
    by : (o : Option X) → cons_option o (filter_map f (take i xs)) ≡ [] →
        (filter_map f (take i xs) ≡ [] → first_of_list (filter_map f xs) ≡ Some y) →
        first_of_list (cons_option o (filter_map f xs)) ≡ Some y
    by None e later = later e
    by (Some w) e later = absurd (cc)
