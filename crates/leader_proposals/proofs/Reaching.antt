-- How far the rows of numbers reach, one number after another.
use Rattle.std.proofs.Common.{◌≡◌, ℕ, zero, suc, ◌+◌, ◌<◌, ◌≤◌, ◌⊎◌, inl, inr, List, [], ◌∷◌, ◌++◌, Option, Some}
use Rattle.std.proofs.Common.{None, true, is_some, max, get_or, refl, sym, ◌∙◌, ap, arith, add-one, append-nil}
use Rattle.std.specs.Prelude.{IsSome}
use Rattle.std.specs.List.{filter_map, cons_option}
use Rattle.std.specs.Option.{option_to_list}
use Rattle.std.proofs.lemmas.Bool.{cases_lt}
use Rattle.std.proofs.lemmas.List.Elements.{filter_map-append}
use Rattle.message_types.specs.declared.views.Plan.{Plan}
use Rattle.quorum_sets.specs.declared.sizes.Sizes.{Sizes}
use Rattle.protocol_rules.specs.declared.facts.OrderFact.{OrderFact}
use Rattle.protocol_rules.specs.Words.{numbers_from}
use Rattle.protocol_rules.specs.Group.{Group, group_of}
use Rattle.protocol_rules.specs.Matrix.{eligible, reach}
use Rattle.protocol_rules.specs.Order.{plan_known}
use Rattle.protocol_rules.specs.Master.{counted_rows}
use Rattle.summary_matrix.specs.Held.{TellsEach}
use Rattle.summary_matrix.proofs.Latest.{reach-push}
use Rattle.leader_proposals.specs.Counting.{counted_in, reach_to, IsSettled}
use Rattle.leader_proposals.proofs.Growing.{counted_in-is, counted_in-more}
use Rattle.protocol_rules.proofs.Numbers.{numbers_from-none, numbers_from-suc}

pub filter_map-one : {X : Type 0} (f : ℕ → Option X) (n : ℕ) → filter_map f (n ∷ []) ≡ option_to_list (f n)
filter_map-one {X} f n = by (f n)
  where
    by : (o : Option X) → cons_option o [] ≡ option_to_list o
    by None = refl
    by (Some x) = refl

-- one number more
pub given-more : {X : Type 0} (f : ℕ → Option X) (last : ℕ) → filter_map f (numbers_from 1 (last + 1)) ≡ filter_map f
    (numbers_from 1 last) ++ option_to_list (f (last + 1))
given-more f last =
    let one : 1 + last ≡ last + 1 = omega arith in
    ap (λ n. filter_map f (numbers_from 1 n)) (add-one last) ∙ ap (filter_map f) (numbers_from-suc 1 last)
    ∙ filter_map-append f (numbers_from 1 last) ((1 + last) ∷ [])
    ∙ ap (λ xs. filter_map f (numbers_from 1 last) ++ xs) (filter_map-one f (1 + last))
    ∙ ap (λ n. filter_map f (numbers_from 1 last) ++ option_to_list (f n)) one

-- where two functions agree on the numbers up to the last, they give the same
pub given-same : {X : Type 0} (f h : ℕ → Option X) (last : ℕ) → ((s : ℕ) → 1 ≤ s → s ≤ last → f s ≡ h s) →
    filter_map f (numbers_from 1 last) ≡ filter_map h (numbers_from 1 last)
given-same f h zero same = ap (filter_map f) (numbers_from-none 1) ∙ sym (ap (filter_map h) (numbers_from-none 1))
given-same f h (suc last) same =
    let before : filter_map f (numbers_from 1 last) ≡ filter_map h (numbers_from 1 last) =
    given-same f h last (λ s low le. same s low (omega arith)) in
    let here : f (last + 1) ≡ h (last + 1) = same (last + 1) (omega arith) (omega arith) in
    ap (λ n. filter_map f (numbers_from 1 n)) (sym (add-one last)) ∙ given-more f last
    ∙ ap (λ xs. xs ++ option_to_list (f (last + 1))) before
    ∙ ap (λ o. filter_map h (numbers_from 1 last) ++ option_to_list o) here ∙ sym (given-more h last)
    ∙ ap (λ n. filter_map h (numbers_from 1 n)) (add-one last)

-- only the size of a quorum matters
pub eligible-same : (g h : Group) (rows : List (List ℕ)) (j : ℕ) → g.q ≡ h.q → eligible g rows j ≡ eligible h rows j
unfolding eligible
eligible-same g h rows j e = rw e refl

reach-same : (g h : Group) (all : List (List (List ℕ))) (j : ℕ) → g.q ≡ h.q → reach g all j ≡ reach h all j
reach-same g h [] j e = refl
reach-same g h (rows ∷ rest) j e = ap (λ n. max n (reach g rest j)) (eligible-same g h rows j e)
    ∙ ap (max (eligible h rows j)) (reach-same g h rest j e)

-- what one number's rows add, if there are any
reach-option : (g : Group) (all : List (List (List ℕ))) (o : Option (List (List ℕ))) (j : ℕ) →
    reach g (all ++ option_to_list o) j ≡ max (reach g all j) (reach g (option_to_list o) j)
reach-option g all None j =
    let none : reach g all j ≡ max (reach g all j) 0 = omega arith in
    ap (λ xs. reach g xs j) (append-nil all) ∙ none
reach-option g all (Some rows) j =
    let one : eligible g rows j ≡ max (eligible g rows j) 0 = omega arith in
    reach-push g all rows j ∙ ap (max (reach g all j)) one

-- raised by one number's rows
pub raised : (g : Group) (facts : List OrderFact) (v last : ℕ) (plan : Plan) (sizes : Sizes) (old new : List ℕ)
    (rows : Option (List (List ℕ))) → g.q ≡ sizes.q →
    plan_known facts v ≡ Some plan → rows ≡ counted_rows g facts v plan (last + 1) →
    TellsEach new (λ j. max (get_or old j 0) (reach (group_of sizes 0) (option_to_list rows) j)) →
    TellsEach old (reach_to g facts v last) → TellsEach new (reach_to g facts v (last + 1))
raised g facts v last plan sizes old new rows q known is tells before j lt =
    tells j lt
    ∙ ap (λ n. max n (reach (group_of sizes 0) (option_to_list rows) j)) (before j lt)
    ∙ ap (max (reach_to g facts v last j)) (reach-same (group_of sizes 0) g (option_to_list rows) j (sym q)
    ∙ ap (λ o. reach g (option_to_list o) j) (is ∙ sym (counted_in-is g facts v (last + 1) plan known)))
    ∙ sym (reach-option g (filter_map (counted_in g facts v) (numbers_from 1 last)) (counted_in g facts v (last + 1)) j)
    ∙ ap (λ all. reach g all j) (sym (given-more (counted_in g facts v) last))

-- one number more is settled
pub settled-more : (g : Group) (facts : List OrderFact) (v last : ℕ) (plan : Plan) (sizes : Sizes) (old new : List ℕ)
    (rows : Option (List (List ℕ))) → g.q ≡ sizes.q →
    plan_known facts v ≡ Some plan → rows ≡ counted_rows g facts v plan (last + 1) → is_some rows ≡ true →
    TellsEach new (λ j. max (get_or old j 0) (reach (group_of sizes 0) (option_to_list rows) j)) →
    IsSettled g facts v last old → IsSettled g facts v (last + 1) new
settled-more g facts v last plan sizes old new rows q known is some tells before = record {
  rows = λ s low le. by s low le (cases_lt last s);
  reach = raised g facts v last plan sizes old new rows q known is tells before.reach;
}
  where
    here : is_some (counted_in g facts v (last + 1)) ≡ true
    here = ap is_some (counted_in-is g facts v (last + 1) plan known ∙ sym is) ∙ some

    by : (s : ℕ) → 1 ≤ s → s ≤ last + 1 → (last < s) ⊎ (s ≤ last) → IsSome (counted_in g facts v s)
    by s low le (inr within) = before.rows s low within
    by s low le (inl above) = let e : s ≡ last + 1 = omega arith in ap (λ n. is_some (counted_in g facts v n)) e ∙ here

-- nothing is settled
pub settled-none : (g : Group) (facts : List OrderFact) (v : ℕ) (numbers : List ℕ) → TellsEach numbers (λ j. 0) →
    IsSettled g facts v 0 numbers
settled-none g facts v numbers tells = record {
  rows = λ s low le. absurd (omega arith);
  reach = λ j lt. tells j lt ∙ sym (ap (λ ns. reach g (filter_map (counted_in g facts v) ns) j) (numbers_from-none 1));
}

-- what is settled stays so
pub settled-facts : (g : Group) (facts more : List OrderFact) (v settled : ℕ) (numbers : List ℕ) →
    IsSettled g facts v settled numbers → IsSettled g (facts ++ more) v settled numbers
settled-facts g facts more v settled numbers is = record {
  rows = λ s low le. ap is_some (counted_in-more g facts more v s (is.rows s low le)) ∙ is.rows s low le;
  reach = λ j lt. is.reach j lt
      ∙ ap (λ all. reach g all j) (given-same (counted_in g facts v) (counted_in g (facts ++ more) v) settled
      (λ s low le. sym (counted_in-more g facts more v s (is.rows s low le))));
}
