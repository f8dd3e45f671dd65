-- The numbers that an execution takes one after another.
use Rattle.std.proofs.Common.{◌≡◌, ℕ, ◌+◌, ◌<◌, ◌≤◌, zero, suc, true, List, [], ◌∷◌, ◌++◌, Option, Some, None, length}
use Rattle.std.proofs.Common.{take, refl, sym, ◌∙◌, ap, subst, arith}
use Rattle.std.proofs.Math.Seq.{take-length, take-append_seam}
use Rattle.protocol_rules.specs.Words.{run_from}
use Rattle.protocol_rules.specs.Group.{Group, most_number}
use Rattle.protocol_rules.specs.Places.{are_rows}
use Rattle.protocol_rules.specs.Order.{ordered, ordered_run, gapless}
use Rattle.protocol_rules.specs.declared.facts.OrderFact.{OrderFact}
use Rattle.message_types.specs.declared.updates.Update.{Update}
use Rattle.message_types.specs.declared.body.Body.{Body}
use Rattle.protocol_rules.specs.Execution.{Request}
use Rattle.global_order.specs.OrderState.{OrderState, IsOrderOf, Where}
use Rattle.execution.specs.Ran.{Ran, IsRunOf}
use Rattle.master_knowledge.specs.Numbers.{IsBehind, HasTaken}
use Rattle.protocol_rules.proofs.Numbers.{length-run_from}

-- a value of a run stands at its place, and the run has one more there
at_place : {X : Type 0} (f : ℕ → Option X) (start most k : ℕ) → k < length (run_from f start most)
    → (x : X) × (f (start + k) ≡ Some x)
    × (take (suc k) (run_from f start most) ≡ take k (run_from f start most) ++ x ∷ [])
unfolding run_from
at_place f start zero k h = absurd (omega arith)
at_place {X} f start (suc most) k h = by (f start) refl k h (λ j less. at_place f (suc start) most j less)
  where
    by : (o : Option X) → f start ≡ o → (k : ℕ) →
        k < length {A = X} (elim o [ None ↦ [] | Some x ↦ x ∷ run_from f (suc start) most ])
        → ((j : ℕ) → j < length (run_from f (suc start) most) → (x : X) × (f (suc start + j) ≡ Some x)
        × (take (suc j) (run_from f (suc start) most) ≡ take j (run_from f (suc start) most) ++ x ∷ []))
        → (x : X) × (f (start + k) ≡ Some x)
        × (take (suc k) (elim o as (λ _. List X) [ None ↦ [] | Some x ↦ x ∷ run_from f (suc start) most ]) ≡ take k
        (elim o as (λ _. List X) [ None ↦ [] | Some x ↦ x ∷ run_from f (suc start) most ]) ++ x ∷ [])
    by None e k h later = absurd (omega arith)
    by (Some x) e zero h later = let same : start + 0 ≡ start = omega arith in (x, ap f same ∙ e, refl)
    by (Some x) e (suc j) h later =
        let deeper = later j (omega arith) in
        let same : start + suc j ≡ suc start + j = omega arith in
        (deeper.0, ap f same ∙ deeper.1, ap (λ (xs : List X). x ∷ xs) deeper.2)

pub gapless_small : (g : Group) (facts : List OrderFact) → gapless g facts ≤ most_number
unfolding ordered_run
gapless_small g facts = length-run_from (ordered g facts) 1 most_number

-- below the first number that isn't ordered each number has rows, and they come next in the run
pub next_rows : (g : Group) (facts : List OrderFact) (k : ℕ) → k < gapless g facts
    → (rows : List (List ℕ)) × (ordered g facts (1 + k) ≡ Some rows)
    × (take (suc k) (ordered_run g facts) ≡ take k (ordered_run g facts) ++ rows ∷ [])
unfolding ordered_run
next_rows g facts k h = at_place (ordered g facts) 1 most_number k h

pub taken_none : (run : Ran) (order : OrderState) (s : ℕ) → s ≡ run.numbers + 1 → HasTaken run run order s
taken_none run order s next = record {
  group = refl;
  next = next;
  run = λ g certified facts said before after mine all is. subst
      (λ (xs : List (List (List ℕ))). IsRunOf g run certified xs)
      (sym (ap (λ xs. take run.numbers xs) all ∙ ap (λ n. take n (before ++ after)) is.numbers
      ∙ take-append_seam before after)) is;
}

pub still_behind : (start now : Ran) (order : OrderState) (behind : IsBehind start order) → now.group ≡ start.group →
    now.numbers ≤ gapless start.group behind.facts → IsBehind now order
still_behind start now order behind same less = record {
  facts = behind.facts;
  said = behind.said;
  is = subst (λ (g : Group). IsOrderOf g order behind.facts behind.said) (sym same) behind.is;
  numbers = subst (λ (g : Group). now.numbers ≤ gapless g behind.facts) (sym same) less;
  rows = subst (λ (g : Group). (s : ℕ) (rows : List (List ℕ)) → ordered g behind.facts s ≡ Some rows →
      are_rows g rows ≡ true) (sym same) behind.rows;
}

pub taken_one : (start old new : Ran) (order : OrderState) (s : ℕ) →
    Where order (λ g facts said. s ≤ gapless g facts) → HasTaken start old order s
    → new.group ≡ old.group → new.numbers ≡ old.numbers + 1
    → ((g : Group) (certified : Request → Option Update) (facts : List OrderFact) (said : List Body)
    (runs : List (List (List ℕ))) (rows : List (List ℕ)) → IsOrderOf g order facts said →
    ordered g facts s ≡ Some rows
    → IsRunOf g old certified runs → IsRunOf g new certified (runs ++ rows ∷ []))
    → HasTaken start new order (s + 1)
taken_one start old new order s below was group number step = record {
  group = group ∙ was.group;
  next = let next : s ≡ old.numbers + 1 = was.next in omega arith;
  run = λ g certified facts said before after mine all is.
      let next : s ≡ old.numbers + 1 = was.next in
      let within : s ≤ gapless g facts = below g facts said mine in
      let rows = next_rows g facts old.numbers (omega arith) in
      let at : 1 + old.numbers ≡ s = omega arith in
      let count : suc old.numbers ≡ new.numbers = omega arith in
      subst (λ (xs : List (List (List ℕ))). IsRunOf g new certified xs)
      (sym rows.2 ∙ ap (λ n. take n (ordered_run g facts)) count)
      (step g certified facts said (take old.numbers (ordered_run g facts)) rows.0 mine
      (ap (ordered g facts) (sym at) ∙ rows.1) (was.run g certified facts said before after mine all is));
}

pub taken_all : (start now : Ran) (order : OrderState) (s : ℕ) → HasTaken start now order s →
    Where order (λ g facts said. s ≡ gapless g facts + 1)
    → (g : Group) (certified : Request → Option Update) (facts : List OrderFact) (said : List Body)
    (before after : List (List (List ℕ))) → IsOrderOf g order facts said → ordered_run g facts ≡ before ++ after →
    IsRunOf g start certified before
    → IsRunOf g now certified (ordered_run g facts)
taken_all start now order s was end g certified facts said before after mine all is =
    let next : s ≡ now.numbers + 1 = was.next in
    let last : s ≡ gapless g facts + 1 = end g facts said mine in
    let count : now.numbers ≡ length (ordered_run g facts) = omega arith in
    subst (λ (xs : List (List (List ℕ))). IsRunOf g now certified xs) (ap (λ n. take n (ordered_run g facts)) count
    ∙ take-length (ordered_run g facts))
    (was.run g certified facts said before after mine all is)
