-- When a master waits for its leader.
use Rattle.std.proofs.Common.{◌≡◌, ℕ, ◌<◌, ◌≤◌, zero, suc, Bool, true, false, not, ◌||◌, List, [], ◌∷◌, slice_index}
use Rattle.std.proofs.Common.{nat_lt, refl, sym, ◌∙◌, ap, arith}
use Rattle.std.specs.List.{list_any}
use Rattle.std.proofs.lemmas.List.Folds.{list_any-append}
use Rattle.message_types.specs.declared.signed.Signed.{Signed}
use Rattle.message_types.specs.declared.body.Body.{Body}
use Rattle.quorum_sets.specs.Masters.{numbers_below}
use Rattle.protocol_rules.specs.Group.{Group}
use Rattle.protocol_rules.specs.Facts.{facts_of}
use Rattle.protocol_rules.specs.Order.{ordered_run}
use Rattle.protocol_rules.specs.Matrix.{eligible, exceeds, reach}
use Rattle.protocol_rules.specs.Views.{is_open}
use Rattle.protocol_rules.specs.Master.{waits, latest_rows}
use Rattle.summary_matrix.specs.Held.{TellsEach}

any_below : (n : ℕ) (t u : ℕ → Bool) → ((j : ℕ) → j < n → t j ≡ u j) →
    list_any t (numbers_below n) ≡ list_any u (numbers_below n)
unfolding numbers_below
any_below zero t u same = refl
any_below (suc n) t u same =
    list_any-append t (numbers_below n) (n ∷ [])
    ∙ ap (λ b. b || list_any t (n ∷ [])) (any_below n t u (λ j less. same j (omega arith)))
    ∙ ap (λ b. list_any u (numbers_below n) || (b || false)) (same n (omega arith))
    ∙ sym (list_any-append u (numbers_below n) (n ∷ []))

exceeds_alike : (g : Group) (rows : List (List ℕ)) (f h : ℕ → ℕ) → ((j : ℕ) → j < g.n → f j ≡ h j) →
    exceeds g rows f ≡ exceeds g rows h
exceeds_alike g rows f h same = any_below g.n (λ j. nat_lt (f j) (eligible g rows j))
    (λ j. nat_lt (h j) (eligible g rows j)) (λ j less. ap (λ x. nat_lt x (eligible g rows j)) (same j less))

pub waits_closed : (g : Group) (known : List (Signed Body)) → is_open g known ≡ false → waits g known ≡ true
unfolding waits
waits_closed g known e = ap
    (λ b. not b || exceeds g (latest_rows g known) (reach g (ordered_run g (facts_of g known)))) e

pub waits_open : (g : Group) (known : List (Signed Body)) (numbers : List ℕ) → g.n ≤ 14 → is_open g known ≡ true →
    TellsEach numbers (reach g (ordered_run g (facts_of g known)))
    → exceeds g (latest_rows g known) (slice_index numbers) ≡ waits g known
unfolding waits
waits_open g known numbers few e tells =
    exceeds_alike g (latest_rows g known) (slice_index numbers) (reach g (ordered_run g (facts_of g known)))
    (λ j less. tells j (omega arith))
    ∙ sym (ap (λ b. not b || exceeds g (latest_rows g known) (reach g (ordered_run g (facts_of g known)))) e)
