-- What is ordered, planned and offered stays so as more facts become known.
use Rattle.std.proofs.Common.{◌≡◌, ℕ, ◌+◌, ◌-◌, Bool, true, false, cond, List, [], ◌∷◌, ◌++◌, Option, Some, None}
use Rattle.std.proofs.Common.{is_some, length, nat_eq, nat_le, refl, sym, ◌∙◌, ap}
use Rattle.std.specs.Prelude.{slice_get, IsSome}
use Rattle.std.specs.List.{filter_map}
use Rattle.std.specs.Option.{option_and_then}
use Rattle.std.proofs.lemmas.Bool.{false≢true}
use Rattle.std.proofs.lemmas.Option.{none-some}
use Rattle.std.proofs.lemmas.List.Elements.{filter_map-append}
use Rattle.message_types.specs.declared.views.Plan.{Plan}
use Rattle.protocol_rules.specs.declared.facts.OrderFact.{OrderFact}
use Rattle.protocol_rules.specs.Words.{or_else, first_met, first_of_list}
use Rattle.protocol_rules.specs.Group.{Group}
use Rattle.protocol_rules.specs.Plans.{first_plan}
use Rattle.protocol_rules.specs.Order.{ordered, plan_in, plan_known, proposal_in, offered}
use Rattle.protocol_rules.specs.Master.{counted_rows}
use Rattle.leader_proposals.specs.Counting.{counted_in}

first_met-more : {F X : Type 0} (met : List F → Option X) (seen known more : List F) (x : X) →
    first_met met seen known ≡ Some x → first_met met seen (known ++ more) ≡ Some x
unfolding first_met
first_met-more {F} {X} met seen [] more x found = at_once more
  where
    at_once : (more : List F) → first_met met seen more ≡ Some x
    at_once [] = found
    at_once (y ∷ rest) = ap (λ o. or_else o (first_met met (seen ++ y ∷ []) rest)) found
first_met-more {F} {X} met seen (y ∷ known) more x found =
    by (met seen) found (first_met-more met (seen ++ y ∷ []) known more x)
  where
    by : (o : Option X) → or_else o (first_met met (seen ++ y ∷ []) known) ≡ Some x →
        (first_met met (seen ++ y ∷ []) known ≡ Some x → first_met met (seen ++ y ∷ []) (known ++ more) ≡ Some x) →
        or_else o (first_met met (seen ++ y ∷ []) (known ++ more)) ≡ Some x
    by None e later = later e
    by (Some z) e later = e

ordered-more : (g : Group) (facts more : List OrderFact) (s : ℕ) (rows : List (List ℕ)) →
    ordered g facts s ≡ Some rows → ordered g (facts ++ more) s ≡ Some rows
unfolding ordered
ordered-more g facts more s rows e = first_met-more _ [] facts more rows e

first-append : {X : Type 0} (xs ys : List X) (x : X) → first_of_list xs ≡ Some x → first_of_list (xs ++ ys) ≡ Some x
first-append [] ys x e = absurd (none-some x e)
first-append (z ∷ xs) ys x e = e

first-more : {X : Type 0} (f : OrderFact → Option X) (facts more : List OrderFact) (x : X) →
    first_of_list (filter_map f facts) ≡ Some x → first_of_list (filter_map f (facts ++ more)) ≡ Some x
first-more f facts more x e = ap first_of_list (filter_map-append f facts more)
    ∙ first-append (filter_map f facts) (filter_map f more) x e

pub plan_known-more : (facts more : List OrderFact) (v : ℕ) (plan : Plan) → plan_known facts v ≡ Some plan →
    plan_known (facts ++ more) v ≡ Some plan
plan_known-more facts more v plan known = by (nat_eq v 0) known
  where
    by : (b : Bool) → cond b (Some first_plan) (first_of_list (filter_map (plan_in v) facts)) ≡ Some plan →
        cond b (Some first_plan) (first_of_list (filter_map (plan_in v) (facts ++ more))) ≡ Some plan
    by true e = e
    by false e = first-more (plan_in v) facts more plan e

-- what a view offers by its plan
abbrev pub offered_by : Plan → List OrderFact → ℕ → ℕ → Option (List (List ℕ))
offered_by plan facts v s =
    cond (nat_le s plan.base) None
    (cond (nat_le s (plan.base + length plan.rows)) (slice_get plan.rows (s - plan.base - 1))
    (first_of_list (filter_map (proposal_in v s) facts)))

pub offered-is : (facts : List OrderFact) (v s : ℕ) (plan : Plan) → plan_known facts v ≡ Some plan →
    offered facts v s ≡ offered_by plan facts v s
unfolding offered
offered-is facts v s plan known = ap (λ o. elim o [ None ↦ None | Some p ↦ offered_by p facts v s ]) known

offered_by-more : (plan : Plan) (facts more : List OrderFact) (v s : ℕ) (rows : List (List ℕ)) →
    offered_by plan facts v s ≡ Some rows → offered_by plan (facts ++ more) v s ≡ Some rows
offered_by-more plan facts more v s rows = by (nat_le s plan.base) (nat_le s (plan.base + length plan.rows))
  where
    by : (low planned : Bool) →
        cond low None (cond planned (slice_get plan.rows (s - plan.base - 1))
        (first_of_list (filter_map (proposal_in v s) facts))) ≡ Some rows →
        cond low None (cond planned (slice_get plan.rows (s - plan.base - 1))
        (first_of_list (filter_map (proposal_in v s) (facts ++ more)))) ≡ Some rows
    by true planned e = e
    by false true e = e
    by false false e = first-more (proposal_in v s) facts more rows e

counted-more : (g : Group) (facts more : List OrderFact) (v s : ℕ) (plan : Plan) (rows : List (List ℕ)) →
    plan_known facts v ≡ Some plan → counted_rows g facts v plan s ≡ Some rows →
    counted_rows g (facts ++ more) v plan s ≡ Some rows
counted-more g facts more v s plan rows known = by (nat_le s plan.base)
  where
    by : (low : Bool) → cond low (ordered g facts s) (offered facts v s) ≡ Some rows →
        cond low (ordered g (facts ++ more) s) (offered (facts ++ more) v s) ≡ Some rows
    by true e = ordered-more g facts more s rows e
    by false e = offered-is (facts ++ more) v s plan (plan_known-more facts more v plan known)
        ∙ offered_by-more plan facts more v s rows (sym (offered-is facts v s plan known) ∙ e)

pub counted_in-is : (g : Group) (facts : List OrderFact) (v s : ℕ) (plan : Plan) → plan_known facts v ≡ Some plan →
    counted_in g facts v s ≡ counted_rows g facts v plan s
counted_in-is g facts v s plan known = ap (λ o. option_and_then (λ p. counted_rows g facts v p s) o) known

-- what was counted once is counted for ever
pub counted_in-more : (g : Group) (facts more : List OrderFact) (v s : ℕ) → IsSome (counted_in g facts v s) →
    counted_in g (facts ++ more) v s ≡ counted_in g facts v s
counted_in-more g facts more v s some = by_plan (plan_known facts v) refl some
  where
    by_rows : (plan : Plan) → plan_known facts v ≡ Some plan → (o : Option (List (List ℕ))) →
        counted_rows g facts v plan s ≡ o → is_some o ≡ true → counted_in g (facts ++ more) v s ≡ counted_in g facts v s
    by_rows plan known None e some = absurd (false≢true some)
    by_rows plan known (Some rows) e some =
        counted_in-is g (facts ++ more) v s plan (plan_known-more facts more v plan known)
        ∙ counted-more g facts more v s plan rows known e
        ∙ sym (counted_in-is g facts v s plan known ∙ e)

    by_plan : (o : Option Plan) → plan_known facts v ≡ o →
        is_some (option_and_then (λ p. counted_rows g facts v p s) o) ≡ true →
        counted_in g (facts ++ more) v s ≡ counted_in g facts v s
    by_plan None known some = absurd (false≢true some)
    by_plan (Some plan) known some = by_rows plan known (counted_rows g facts v plan s) refl some
