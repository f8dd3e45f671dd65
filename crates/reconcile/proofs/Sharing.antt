-- Shares, told of one answer more.
use Rattle.std.proofs.Common.{◌≡◌, ℕ, zero, suc, ◌+◌, ◌<◌, Bool, true, false, cond, List, [], ◌∷◌, ◌++◌, filter, length}
use Rattle.std.proofs.Common.{get_or, set, nat_eq, refl, sym, ◌∙◌, ap, inl, inr, ◌⊎◌, arith}
use Rattle.std.proofs.Common.{get_or-set_same, get_or-set_other}
use Rattle.std.specs.Prelude.{replicate}
use Rattle.std.proofs.lemmas.Bool.{cases_eq, eq-eqb, ne_eqb}
use Rattle.std.proofs.lemmas.List.{length-append}
use Rattle.std.proofs.lemmas.List.Elements.{filter-append}
use Rattle.reconcile.specs.Shares.{AreSharesOf, times_answered}

pub no_counts : (n j : ℕ) → get_or {A = ℕ} (replicate n 0) j 0 ≡ 0
no_counts zero j = refl
no_counts (suc n) zero = refl
no_counts (suc n) (suc j) = no_counts n j

abbrev one_if : Bool → ℕ
one_if true = 1
one_if false = 0

-- an answer more
times-push : (answered : List ℕ) (a asker : ℕ) →
    times_answered (answered ++ a ∷ []) asker ≡ times_answered answered asker + one_if (nat_eq asker a)
times-push answered a asker =
    ap length (filter-append (nat_eq asker) answered (a ∷ []))
    ∙ length-append (filter (nat_eq asker) answered) (filter (nat_eq asker) (a ∷ []))
    ∙ ap (λ k. times_answered answered asker + k) (by (nat_eq asker a))
  where
    by : (b : Bool) → length (cond b (a ∷ []) []) ≡ one_if b
    by true = refl
    by false = refl

pub share_told : (old new : List ℕ) (asker : ℕ) → asker < length old → new ≡ set old asker (get_or old asker 0 + 1) →
    (answered : List ℕ) → AreSharesOf old answered → AreSharesOf new (answered ++ asker ∷ [])
share_told old new asker within is answered shares a few =
    ap (λ (l : List ℕ). get_or l a 0) is ∙ by (cases_eq a asker) ∙ sym (times-push answered asker a)
  where
    by : (a ≡ asker) ⊎ (a ≡ asker → ⊥) →
        get_or (set old asker (get_or old asker 0 + 1)) a 0 ≡ times_answered answered a + one_if (nat_eq a asker)
    by (inl own) =
        ap (λ i. get_or (set old asker (get_or old asker 0 + 1)) i 0) own
        ∙ get_or-set_same old asker (get_or old asker 0 + 1) 0 within
        ∙ ap (λ k. k + 1) (ap (λ i. get_or old i 0) (sym own) ∙ shares a few)
        ∙ sym (ap (λ b. times_answered answered a + one_if b) (eq-eqb a asker own))
    by (inr other) =
        let same : get_or (set old asker (get_or old asker 0 + 1)) a 0 ≡ times_answered answered a =
        get_or-set_other old asker a (get_or old asker 0 + 1) 0 other ∙ shares a few in
        let bit : one_if (nat_eq a asker) ≡ 0 = ap one_if (ne_eqb a asker other) in
        omega arith
