-- Facts of more words are those of the words before and then theirs. So what an order was handed word by word
-- are the facts of all words, and it is the order of these.
use Rattle.std.proofs.Common.{◌≡◌, ◌++◌, ◌∷◌, [], List, sym, ◌∙◌, ap, subst}
use Rattle.std.proofs.lemmas.List.{append-nil}
use Rattle.std.proofs.lemmas.Grind.{flat_map-append}
use Rattle.message_types.specs.declared.signed.Signed.{Signed}
use Rattle.message_types.specs.declared.body.Body.{Body}
use Rattle.protocol_rules.specs.declared.facts.OrderFact.{OrderFact}
use Rattle.protocol_rules.specs.Group.{Group}
use Rattle.protocol_rules.specs.Facts.{tells, facts_of}
use Rattle.global_order.specs.OrderState.{IsOrderOf}
use Rattle.global_order.proofs.laws.only_facts_count.Goals as goal

told-more : (g : Group) (known more : List (Signed Body)) →
    facts_of g (known ++ more) ≡ facts_of g known ++ facts_of g more
unfolding facts_of
told-more g known more = flat_map-append (tells g) known more

told-one : (g : Group) (f : Signed Body) → facts_of g (f ∷ []) ≡ tells g f
unfolding facts_of
told-one g f = append-nil (tells g f)

told-none : (g : Group) → facts_of g [] ≡ []
unfolding facts_of
told-none g = λ i. []

told-more-by : (g : Group) (known : List (Signed Body)) (f : Signed Body) →
    facts_of g known ++ tells g f ≡ facts_of g (known ++ f ∷ [])
told-more-by g known f = ap (λ xs. facts_of g known ++ xs) (sym (told-one g f)) ∙ sym (told-more g known (f ∷ []))

pub returns-clause-nothing : goal.returns-clause-nothing
returns-clause-nothing c g order said is =
    subst (λ (facts : List OrderFact). IsOrderOf g order facts said) (sym (told-none g)) is

pub returns-clause-word : goal.returns-clause-word
returns-clause-word c g before after known said f learns is =
    subst (λ (facts : List OrderFact). IsOrderOf g after facts said) (told-more-by g known f)
    (learns g (facts_of g known) said is)

pub returns-clause-words : goal.returns-clause-words
returns-clause-words c = told-more

pub returns-clause-other : goal.returns-clause-other
returns-clause-other c g order known said f none is =
    subst (λ (facts : List OrderFact). IsOrderOf g order facts said) (sym (append-nil (facts_of g known))
    ∙ ap (λ xs. facts_of g known ++ xs) (sym none) ∙ told-more-by g known f) is
