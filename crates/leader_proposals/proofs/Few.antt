-- Where all rows known are few, those that are ordered or offered are.
use Rattle.std.proofs.Common.{◌≡◌, ℕ, zero, suc, ◌+◌, ◌-◌, ◌≤◌, Bool, true, false, cond, ◌&&◌, List, [], ◌∷◌, ◌++◌}
use Rattle.std.proofs.Common.{Option, Some, None, is_some, length, nat_eq, nat_le, refl, sym, ◌∙◌, ap, append_assoc}
use denote.Bor.{Bor}
use Rattle.std.specs.Prelude.{slice_get}
use Rattle.std.specs.List.{list_all, find, filter_map, flat_map, cons_option}
use Rattle.std.specs.Option.{IfSome, option_copied}
use Rattle.std.proofs.lemmas.Bool.{and_parts, and_from, leb-true, false≢true}
use Rattle.std.proofs.lemmas.Option.{none-some, same_Some}
use Rattle.std.proofs.lemmas.Grind.{flat_map-append}
use Rattle.std.proofs.lemmas.List.Folds.{list_all-append}
use Rattle.message_types.specs.declared.views.Plan.{Plan}
use Rattle.protocol_rules.specs.declared.facts.OrderFact.{OrderFact}
use Rattle.protocol_rules.specs.declared.facts.OrderFact.TheVariants as fact
use Rattle.protocol_rules.specs.Words.{or_else, first_met, first_of_list}
use Rattle.protocol_rules.specs.Group.{Group}
use Rattle.protocol_rules.specs.Facts.{rows_in, rows_known}
use Rattle.protocol_rules.specs.Plans.{first_plan}
use Rattle.protocol_rules.specs.Order.{ordered, plan_in, plan_known, proposal_in, offered}
use Rattle.leader_proposals.specs.Counting.{are_few}
use Rattle.leader_proposals.proofs.Growing.{offered_by}

-- all rows that the facts make known are few
unfoldable pub all_few : List OrderFact → Bool
all_few facts = list_all are_few (rows_known facts)

few-append : (xs ys : List OrderFact) → all_few (xs ++ ys) ≡ true → (all_few xs ≡ true) × (all_few ys ≡ true)
unfolding rows_known all_few
few-append xs ys all =
    and_parts (list_all are_few (flat_map rows_in xs)) (list_all are_few (flat_map rows_in ys))
    (sym (ap (list_all are_few) (flat_map-append rows_in xs ys) ∙ list_all-append are_few (flat_map rows_in xs)
    (flat_map rows_in ys)) ∙ all)

few-cons : (x : OrderFact) (xs : List OrderFact) → all_few (x ∷ xs) ≡ true →
    (list_all are_few (rows_in x) ≡ true) × (all_few xs ≡ true)
unfolding rows_known all_few
few-cons x xs all = and_parts (list_all are_few (rows_in x)) (list_all are_few (flat_map rows_in xs))
    (sym (list_all-append are_few (rows_in x) (flat_map rows_in xs)) ∙ all)

find-passes : {X : Type 0} (p test : X → Bool) (xs : List X) (x : X) → find test xs ≡ Some x →
    list_all p xs ≡ true → p x ≡ true
find-passes p test [] x found all = absurd (none-some x found)
find-passes {X} p test (y ∷ xs) x found all =
    by (test y) found (and_parts (p y) (list_all p xs) all) (find-passes p test xs x)
  where
    by : (b : Bool) → cond b (Some y) (find test xs) ≡ Some x → (p y ≡ true) × (list_all p xs ≡ true) →
        (find test xs ≡ Some x → list_all p xs ≡ true → p x ≡ true) → p x ≡ true
    by true e both later = ap p (sym (same_Some y x e)) ∙ both.0
    by false e both later = later e both.1

found-few : (test : List OrderFact → List (List ℕ) → Bool) (seen : List OrderFact) (rows : List (List ℕ)) →
    find (test seen) (rows_known seen) ≡ Some rows → all_few seen ≡ true → are_few rows ≡ true
unfolding all_few
found-few test seen rows found all = find-passes are_few (test seen) (rows_known seen) rows found all

met-few : (test : List OrderFact → List (List ℕ) → Bool) (seen known : List OrderFact) (rows : List (List ℕ)) →
    first_met (λ beginning. find (test beginning) (rows_known beginning)) seen known ≡ Some rows →
    all_few (seen ++ known) ≡ true → are_few rows ≡ true
unfolding first_met
met-few test seen [] rows found all = found-few test seen rows found (few-append seen [] all).0
met-few test seen (y ∷ known) rows found all = by (find (test seen) (rows_known seen)) refl found
    (met-few test (seen ++ y ∷ []) known rows)
  where
    by : (o : Option (List (List ℕ))) → find (test seen) (rows_known seen) ≡ o →
        or_else o (first_met (λ beginning. find (test beginning) (rows_known beginning)) (seen ++ y ∷ []) known)
        ≡ Some rows →
        (first_met (λ beginning. find (test beginning) (rows_known beginning)) (seen ++ y ∷ []) known ≡ Some rows →
        all_few ((seen ++ y ∷ []) ++ known) ≡ true → are_few rows ≡ true) → are_few rows ≡ true
    by None e found later = later found (ap all_few (append_assoc seen (y ∷ []) known) ∙ all)
    by (Some r) e found later = found-few test seen rows (e ∙ found) (few-append seen (y ∷ known) all).0

ordered-few : (g : Group) (facts : List OrderFact) (s : ℕ) (rows : List (List ℕ)) → ordered g facts s ≡ Some rows →
    all_few facts ≡ true → are_few rows ≡ true
unfolding ordered
ordered-few g facts s rows found all = met-few _ [] facts rows found all

first-few : {X : Type 0} (f : OrderFact → Option X) (good : X → Bool) →
    ((x : OrderFact) (v : X) → f x ≡ Some v → list_all are_few (rows_in x) ≡ true → good v ≡ true) →
    (facts : List OrderFact) (v : X) → first_of_list (filter_map f facts) ≡ Some v →
    all_few facts ≡ true → good v ≡ true
first-few f good one [] v found all = absurd (none-some v found)
first-few {X} f good one (x ∷ facts) v found all =
    by (f x) refl found (few-cons x facts all) (first-few f good one facts v)
  where
    by : (o : Option X) → f x ≡ o → first_of_list (cons_option o (filter_map f facts)) ≡ Some v →
        (list_all are_few (rows_in x) ≡ true) × (all_few facts ≡ true) →
        (first_of_list (filter_map f facts) ≡ Some v → all_few facts ≡ true → good v ≡ true) → good v ≡ true
    by None e found both later = later found both.1
    by (Some w) e found both later = one x v (e ∙ found) both.0

plan-in-few : (v : ℕ) (x : OrderFact) (plan : Plan) → plan_in v x ≡ Some plan → list_all are_few (rows_in x) ≡ true →
    list_all are_few plan.rows ≡ true
plan-in-few v (fact.Plan w p) plan found all = by (nat_eq w v) found
  where
    by : (b : Bool) → cond b (Some p) None ≡ Some plan → list_all are_few plan.rows ≡ true
    by true e = ap (λ (x : Plan). list_all are_few x.rows) (sym (same_Some p plan e)) ∙ all
    by false e = absurd (none-some plan e)
plan-in-few v _ plan found all = absurd (none-some plan found)

proposal-in-few : (v s : ℕ) (x : OrderFact) (rows : List (List ℕ)) → proposal_in v s x ≡ Some rows →
    list_all are_few (rows_in x) ≡ true → are_few rows ≡ true
proposal-in-few v s (fact.Proposal w t r) rows found all = by (nat_eq w v && nat_eq t s) found
  where
    by : (b : Bool) → cond b (Some r) None ≡ Some rows → are_few rows ≡ true
    by true e = ap are_few (sym (same_Some r rows e)) ∙ (and_parts (are_few r) true all).0
    by false e = absurd (none-some rows e)
proposal-in-few v s _ rows found all = absurd (none-some rows found)

plan_known-few : (facts : List OrderFact) (v : ℕ) (plan : Plan) → plan_known facts v ≡ Some plan →
    all_few facts ≡ true → list_all are_few plan.rows ≡ true
plan_known-few facts v plan known all = by (nat_eq v 0) known
  where
    by : (b : Bool) → cond b (Some first_plan) (first_of_list (filter_map (plan_in v) facts)) ≡ Some plan →
        list_all are_few plan.rows ≡ true
    by true e = ap (λ (x : Plan). list_all are_few x.rows) (sym (same_Some first_plan plan e))
    by false e = first-few (plan_in v) (λ p. list_all are_few p.rows) (plan-in-few v) facts plan e all

get-few : (all : List (List (List ℕ))) (i : ℕ) (rows : List (List ℕ)) → slice_get all i ≡ Some rows →
    list_all are_few all ≡ true → are_few rows ≡ true
get-few [] i rows found all = absurd (none-some rows found)
get-few (r ∷ rest) zero rows found all = ap are_few (sym (same_Some r rows found))
    ∙ (and_parts (are_few r) (list_all are_few rest) all).0
get-few (r ∷ rest) (suc i) rows found all =
    get-few rest i rows found (and_parts (are_few r) (list_all are_few rest) all).1

offered-few : (facts : List OrderFact) (v s : ℕ) (rows : List (List ℕ)) → offered facts v s ≡ Some rows →
    all_few facts ≡ true → are_few rows ≡ true
unfolding offered
offered-few facts v s rows found all = by_plan (plan_known facts v) refl found
  where
    by : (plan : Plan) → list_all are_few plan.rows ≡ true → (low planned : Bool) →
        cond low None (cond planned (slice_get plan.rows (s - plan.base - 1))
        (first_of_list (filter_map (proposal_in v s) facts))) ≡ Some rows → are_few rows ≡ true
    by plan few true planned e = absurd (none-some rows e)
    by plan few false true e = get-few plan.rows (s - plan.base - 1) rows e few
    by plan few false false e = first-few (proposal_in v s) are_few (proposal-in-few v s) facts rows e all

    by_plan : (o : Option Plan) → plan_known facts v ≡ o →
        (elim o [ None ↦ None | Some plan ↦ offered_by plan facts v s ]) ≡ Some rows → are_few rows ≡ true
    by_plan None known e = absurd (none-some rows e)
    by_plan (Some plan) known e = by plan (plan_known-few facts v plan known all) (nat_le s plan.base)
        (nat_le s (plan.base + length plan.rows)) e

pub few-ordered : (g : Group) (facts : List OrderFact) (s : ℕ) (o : Option (List (List ℕ))) → o ≡ ordered g facts s →
    list_all are_few (rows_known facts) ≡ true → IfSome o (λ rows. length rows ≤ 14)
unfolding all_few
few-ordered g facts s None is all = tt
few-ordered g facts s (Some rows) is all = leb-true (length rows) 14 (ordered-few g facts s rows (sym is) all)

pub few-offered : (facts : List OrderFact) (v s : ℕ) (o : Option (List (List ℕ))) → o ≡ offered facts v s →
    list_all are_few (rows_known facts) ≡ true → IfSome o (λ rows. length rows ≤ 14)
unfolding all_few
few-offered facts v s None is all = tt
few-offered facts v s (Some rows) is all = leb-true (length rows) 14 (offered-few facts v s rows (sym is) all)

pub few-read : (r : Option (Bor (List (List ℕ)))) → IfSome (option_copied r) (λ rows. length rows ≤ 14) →
    IfSome r (λ rows. length rows.now ≤ 14)
few-read None few = tt
few-read (Some rows) few = few

-- where no fact is known
pub few-none : list_all are_few (rows_known []) ≡ true
unfolding rows_known
few-none = refl

pub few-none-known : all_few [] ≡ true
unfolding all_few
few-none-known = few-none

pub few-of : (x : OrderFact) (facts : List OrderFact) → list_all are_few (rows_in x) ≡ true → all_few facts ≡ true →
    all_few (x ∷ facts) ≡ true
unfolding rows_known all_few
few-of x facts here rest = list_all-append are_few (rows_in x) (flat_map rows_in facts)
    ∙ and_from (list_all are_few (rows_in x)) (list_all are_few (flat_map rows_in facts)) here rest

pub few-join : (xs ys : List OrderFact) → all_few xs ≡ true → all_few ys ≡ true → all_few (xs ++ ys) ≡ true
unfolding rows_known all_few
few-join xs ys first second =
    ap (list_all are_few) (flat_map-append rows_in xs ys)
    ∙ list_all-append are_few (flat_map rows_in xs) (flat_map rows_in ys)
    ∙ and_from (list_all are_few (flat_map rows_in xs)) (list_all are_few (flat_map rows_in ys)) first second

-- no rows are read where there are none
pub none-copied : (r : Option (Bor (List (List ℕ)))) → is_some r ≡ false → option_copied r ≡ None
none-copied None none = refl
none-copied (Some rows) none = absurd (false≢true (sym none))
