-- An actor's own entries, and what is in a list.
use Rattle.std.proofs.Common.{ℕ, ◌≤◌, not, List, length, nat_eq, refl, arith, ◌≡◌, cond, [], ◌∷◌, ◌++◌, filter, ◌∙◌}
use Rattle.std.proofs.Common.{ap, Bool, true, zero, suc, ◌<◌, get_or, sym, subst}
use Rattle.std.proofs.lemmas.List.Filters.{length-filter_both}
use Rattle.std.proofs.lemmas.Bool.{eq-eqb, ne_eqb, and_from}
use Rattle.std.proofs.lemmas.List.Elements.{filter-append}
use Rattle.std.proofs.lemmas.List.{append-nil}
use Rattle.std.specs.List.{list_all}
use Rattle.plain_lists.specs.Lists.{IsIn, here, there}
use Rattle.history_rules.specs.Events.{Entry}
use Rattle.history_rules.specs.Setup.{own}

pub own_fewer : (history : List Entry) (actor : ℕ) → length (own history actor) ≤ length history
unfolding own
own_fewer history actor =
    omega (
      arith,
      length-filter_both (λ (e : Entry). nat_eq e.actor actor) (λ (e : Entry). not (nat_eq e.actor actor))
          (λ e. refl) history,
    )

-- an actor's own list, one entry later
pub own_same : (before : List Entry) (e : Entry) (a : ℕ) → e.actor ≡ a →
    own (before ++ e ∷ []) a ≡ own before a ++ e ∷ []
unfolding own
own_same before e a by =
    filter-append (λ x. nat_eq x.actor a) before (e ∷ [])
    ∙ ap (λ b. filter (λ x. nat_eq x.actor a) before ++ cond b (e ∷ []) []) (eq-eqb e.actor a by)

pub own_else : (before : List Entry) (e : Entry) (a : ℕ) → (e.actor ≡ a → ⊥) → own (before ++ e ∷ []) a ≡ own before a
unfolding own
own_else before e a other =
    filter-append (λ x. nat_eq x.actor a) before (e ∷ [])
    ∙ (ap (λ b. filter (λ x. nat_eq x.actor a) before ++ cond b (e ∷ []) []) (ne_eqb e.actor a other)
    ∙ append-nil (filter (λ x. nat_eq x.actor a) before))

pub all_from : {X : Type 0} (p : X → Bool) (xs : List X) → ((x : X) → IsIn x xs → p x ≡ true) → list_all p xs ≡ true
all_from p [] each = refl
all_from p (x ∷ xs) each = and_from (p x) (list_all p xs) (each x (here xs))
    (all_from p xs (λ y h. each y (there x xs h)))

-- the element at a place is in the list
pub at_place : {X : Type 0} (xs : List X) (i : ℕ) (x : X) → i < length xs → x ≡ get_or xs i x → IsIn x xs
at_place [] i x below is = absurd (omega arith)
at_place {X} (y ∷ xs) zero x below is = let same : x ≡ y = is in subst (λ (z : X). IsIn z (y ∷ xs)) (sym same) (here xs)
at_place (y ∷ xs) (suc i) x below is = there y xs (at_place xs i x (omega arith) is)

pub empty_from : {X : Type 0} (xs : List X) → ((x : X) → IsIn x xs → ⊥) → xs ≡ []
empty_from [] none = refl
empty_from (x ∷ xs) none = absurd (none x (here xs))

abbrev pub has_stamp : ℕ → Entry → Bool
has_stamp s e = nat_eq e.stamp s

pub last_stamped : (s : ℕ) (own_before : List Entry) (e : Entry) → e.stamp ≡ s →
    filter (has_stamp s) (own_before ++ e ∷ []) ≡ filter (has_stamp s) own_before ++ e ∷ []
last_stamped s own_before e is =
    filter-append (has_stamp s) own_before (e ∷ []) ∙ ap (λ b. filter (has_stamp s) own_before ++ cond b (e ∷ []) [])
    (eq-eqb e.stamp s is)

pub last_other : (s : ℕ) (own_before : List Entry) (e : Entry) → (e.stamp ≡ s → ⊥) →
    filter (has_stamp s) (own_before ++ e ∷ []) ≡ filter (has_stamp s) own_before
last_other s own_before e other =
    filter-append (has_stamp s) own_before (e ∷ [])
    ∙ (ap (λ b. filter (has_stamp s) own_before ++ cond b (e ∷ []) []) (ne_eqb e.stamp s other)
    ∙ append-nil (filter (has_stamp s) own_before))
