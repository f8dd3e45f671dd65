-- Lists that are tested, joined and counted through.
use Rattle.std.proofs.Common.{◌≡◌, ◌⊎◌, ℕ, zero, suc, ◌+◌, ◌<◌, ◌≤◌, Bool, true, cond, List, [], ◌∷◌, ◌++◌, get_or}
use Rattle.std.proofs.Common.{inl, inr, sym, ◌∙◌, ap, arith}
use Rattle.std.specs.List.{list_all}
use Rattle.std.proofs.lemmas.Bool.{and_from, cases_lt}
use Rattle.std.proofs.lemmas.List.{get_or_append_left, get_or_push}
use Rattle.std.proofs.lemmas.List.Folds.{list_all-append}
use Rattle.quorum_sets.specs.Masters.{numbers_below, voters}
use Rattle.quorum_sets.proofs.MastersLemmas.{numbers_below-suc, voters-suc}
use Rattle.quorum_sets.proofs.Numbered.{length-numbers_below}

pub all_join : {X : Type 0} (f : X → Bool) (xs ys : List X) → list_all f xs ≡ true → list_all f ys ≡ true →
    list_all f (xs ++ ys) ≡ true
all_join f xs ys one two = list_all-append f xs ys ∙ and_from (list_all f xs) (list_all f ys) one two

-- of the numbers below another, that at a place is the place
pub number_at : (n k d : ℕ) → k < n → get_or (numbers_below n) k d ≡ k
number_at zero k d below = absurd (omega arith)
number_at (suc n) k d below = ap (λ (ns : List ℕ). get_or ns k d) (numbers_below-suc n)
    ∙ at (cases_lt k n) (number_at n k d)
  where
    at : (k < n) ⊎ (n ≤ k) → (k < n → get_or (numbers_below n) k d ≡ k) → get_or (numbers_below n ++ n ∷ []) k d ≡ k
    at (inl before) there = get_or_append_left (numbers_below n) (n ∷ []) d k (let long = length-numbers_below n in
        omega arith) ∙ there before
    at (inr last) there =
        let same : n ≡ k = omega arith in
        get_or_push (numbers_below n) n d k (length-numbers_below n ∙ same) ∙ same

-- one master more, a voter or not
pub voters_next : (test : ℕ → Bool) (n : ℕ) (b : Bool) (old new : List ℕ) → b ≡ test n →
    new ≡ old ++ cond b (n ∷ []) [] → old ≡ voters test n → new ≡ voters test (n + 1)
voters_next test n b old new is more was =
    let next : n + 1 ≡ suc n = omega arith in
    more ∙ ap (λ c. old ++ cond c (n ∷ []) []) is ∙ ap (λ (xs : List ℕ). xs ++ cond (test n) (n ∷ []) []) was
    ∙ sym (voters-suc test n) ∙ ap (voters test) (sym next)
