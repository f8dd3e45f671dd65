-- Steps of loops over the places of masters.
use Rattle.std.proofs.Common.{◌≡◌, ℕ, zero, suc, ◌+◌, ◌<◌, ◌≤◌, Bool, true, false, ◌||◌, List, [], ◌∷◌, ◌++◌, length}
use Rattle.std.proofs.Common.{get_or, set, sym, ◌∙◌, ap, subst, inl, inr, ◌⊎◌, arith, add-one}
use Rattle.std.proofs.Common.{get_or-set_same, get_or-set_other}
use Rattle.std.specs.List.{list_any}
use Rattle.std.proofs.lemmas.Bool.{cases_eq, or_left, or_right}
use Rattle.std.proofs.lemmas.List.Folds.{list_any-append}
use Rattle.quorum_sets.specs.Masters.{numbers_below}
use Rattle.quorum_sets.proofs.Numbered.{below_one_more, any_start}

-- one more number is told
pub told_more : (numbers : List ℕ) (place v : ℕ) (f : ℕ → ℕ) → place < length numbers →
    ((j : ℕ) → j < place → get_or numbers j 0 ≡ f j) → v ≡ f place → (j : ℕ) → j < place + 1 →
    get_or (set numbers place v) j 0 ≡ f j
told_more numbers place v f within told here j lt = by_place (cases_eq j place)
  where
    by_place : (j ≡ place) ⊎ (j ≡ place → ⊥) → get_or (set numbers place v) j 0 ≡ f j
    by_place (inl e) = subst (λ (k : ℕ). get_or (set numbers place v) k 0 ≡ f k) (sym e)
        (get_or-set_same numbers place v 0 within ∙ here)
    by_place (inr ne) = get_or-set_other numbers place j v 0 ne ∙ told j (omega arith)

-- the numbers after the one that is told stay
pub untold : (numbers old : List ℕ) (place v : ℕ) → ((j : ℕ) → place ≤ j → get_or numbers j 0 ≡ get_or old j 0) →
    (j : ℕ) → place + 1 ≤ j → get_or (set numbers place v) j 0 ≡ get_or old j 0
untold numbers old place v same j le =
    let apart : j ≡ place → ⊥ = λ (e : j ≡ place). omega arith in
    get_or-set_other numbers place j v 0 apart ∙ same j (omega arith)

pub any_here : (p : ℕ → Bool) (i n : ℕ) → i < n → p i ≡ true → list_any p (numbers_below n) ≡ true
any_here p i zero lt passes = absurd (omega arith)
any_here p i (suc n) lt passes = ap (list_any p) (ap numbers_below (sym (add-one n)) ∙ below_one_more n)
    ∙ list_any-append p (numbers_below n) (n ∷ []) ∙ by_place (cases_eq i n) (any_here p i n)
  where
    by_place : (i ≡ n) ⊎ (i ≡ n → ⊥) → (i < n → p i ≡ true → list_any p (numbers_below n) ≡ true) →
        (list_any p (numbers_below n) || (p n || false)) ≡ true
    by_place (inl e) earlier = or_right (list_any p (numbers_below n)) (p n || false)
        (or_left (p n) false (ap p (sym e) ∙ passes))
    by_place (inr ne) earlier = or_left (list_any p (numbers_below n)) (p n || false) (earlier (omega arith) passes)

-- tests that agree below n
pub any_below : (p r : ℕ → Bool) (n : ℕ) → ((j : ℕ) → j < n → p j ≡ r j) →
    list_any p (numbers_below n) ≡ list_any r (numbers_below n)
any_below p r zero same = any_start p ∙ sym (any_start r)
any_below p r (suc n) same =
    let before : list_any p (numbers_below n) ≡ list_any r (numbers_below n) =
    any_below p r n (λ j lt. same j (omega arith)) in
    ap (list_any p) (one_more) ∙ list_any-append p (numbers_below n) (n ∷ []) ∙ ap (λ b. b || (p n || false)) before
    ∙ ap (λ b. list_any r (numbers_below n) || (b || false)) (same n (omega arith))
    ∙ sym (list_any-append r (numbers_below n) (n ∷ [])) ∙ ap (list_any r) (sym one_more)
  where
    one_more : numbers_below (suc n) ≡ numbers_below n ++ n ∷ []
    one_more = ap numbers_below (sym (add-one n)) ∙ below_one_more n
