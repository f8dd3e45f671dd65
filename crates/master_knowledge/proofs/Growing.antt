-- What is ordered without a gap only grows.
use Rattle.std.proofs.Common.{◌≡◌, ℕ, List, [], ◌++◌, Some, append_assoc, ◌∙◌, ap}
use Rattle.plain_lists.specs.Lists.{Begins}
use Rattle.protocol_rules.proofs.FirstMet.{first_met-more}
use Rattle.message_types.specs.declared.signed.Signed.{Signed}
use Rattle.message_types.specs.declared.body.Body.{Body}
use Rattle.protocol_rules.specs.declared.facts.OrderFact.{OrderFact}
use Rattle.protocol_rules.specs.Group.{Group, most_number}
use Rattle.protocol_rules.specs.Facts.{facts_of}
use Rattle.protocol_rules.specs.Order.{ordered, ordered_run}
use Rattle.agreement.proofs.ExecutedInTurn.{runs_grow}
use Rattle.protocol_rules.proofs.Told.{told_more}

ordered_more : (g : Group) (facts more : List OrderFact) (s : ℕ) (rows : List (List ℕ)) →
    ordered g facts s ≡ Some rows → ordered g (facts ++ more) s ≡ Some rows
unfolding ordered
ordered_more g facts more s rows e = first_met-more _ [] facts more e

run_more : (g : Group) (facts more : List OrderFact) → Begins (ordered_run g facts) (ordered_run g (facts ++ more))
unfolding ordered_run
run_more g facts more = runs_grow (ordered g facts) (ordered g (facts ++ more))
    (ordered_more g facts more) 1 most_number

pub run_grows : (g : Group) (known more : List (Signed Body)) (before after : List (List (List ℕ))) →
    ordered_run g (facts_of g known) ≡ before ++ after
    → (later : List (List (List ℕ))) × (ordered_run g (facts_of g (known ++ more)) ≡ before ++ later)
run_grows g known more before after e =
    let grown = run_more g (facts_of g known) (facts_of g more) in (
      after ++ grown.rest,
      ap (ordered_run g) (told_more g known more) ∙ grown.same ∙ ap (λ xs. xs ++ grown.rest) e
          ∙ append_assoc before after grown.rest,
    )
