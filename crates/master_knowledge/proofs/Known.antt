-- What one word more changes in each part of what a master keeps.
use Rattle.std.proofs.Common.{◌≡◌, ℕ, true, List, [], ◌∷◌, ◌++◌, refl, sym, ◌∙◌, ap, subst}
use Rattle.std.proofs.lemmas.List.{append-nil}
use Rattle.std.proofs.lemmas.List.Folds.{list_all-append}
use Rattle.std.proofs.lemmas.Bool.{and_from}
use Rattle.std.specs.List.{list_all}
use Rattle.message_types.specs.declared.signed.Signed.{Signed}
use Rattle.message_types.specs.declared.body.Body.{Body}
use Rattle.protocol_rules.specs.declared.facts.OrderFact.{OrderFact}
use Rattle.protocol_rules.specs.Group.{Group}
use Rattle.protocol_rules.specs.Facts.{tells, facts_of}
use Rattle.protocol_rules.specs.Master.{certified_requests}
use Rattle.preorder.specs.PreorderState.{PreorderState, Takes}
use Rattle.execution.specs.Ran.{Ran, IsRunOf}
use Rattle.global_order.specs.OrderState.{OrderState, IsOrderOf}
use Rattle.lacking.specs.Come.{FurthestState, IsFurthestOf}
use Rattle.master_knowledge.specs.Whole.{is_whole}
use Rattle.master_knowledge.specs.Past.{Past}
use Rattle.master_knowledge.specs.declared.knowledge.Knowledge.{Knowledge}
use Rattle.master_knowledge.specs.Knows.{Knows, IsKnowledge, IsExecutionOf}
use Rattle.master_knowledge.proofs.Growing.{run_grows}
use Rattle.protocol_rules.proofs.Told.{told_more}

told_one : (g : Group) (f : Signed Body) → facts_of g (f ∷ []) ≡ tells g f
unfolding facts_of
told_one g f = append-nil (tells g f)

pub order_learns : (g : Group) (o : OrderState) (known : List (Signed Body)) (said : List Body) (f : Signed Body) →
    IsOrderOf g o (facts_of g known ++ tells g f) said → IsOrderOf g o (facts_of g (known ++ f ∷ [])) said
order_learns g o known said f is =
    subst (λ (facts : List OrderFact). IsOrderOf g o facts said)
    (ap (λ xs. facts_of g known ++ xs) (sym (told_one g f)) ∙ sym (told_more g known (f ∷ []))) is

pub far_learns : (g : Group) (m : FurthestState) (known : List (Signed Body)) (f : Signed Body) →
    IsFurthestOf g m (facts_of g known ++ tells g f) → IsFurthestOf g m (facts_of g (known ++ f ∷ []))
far_learns g m known f is =
    subst (λ (facts : List OrderFact). IsFurthestOf g m facts)
    (ap (λ xs. facts_of g known ++ xs) (sym (told_one g f)) ∙ sym (told_more g known (f ∷ []))) is

pub run_learns : (g : Group) (m after : Ran) (known : List (Signed Body)) (f : Signed Body)
    → ((runs : List (List (List ℕ))) → IsRunOf g m (certified_requests g known) runs →
    IsRunOf g after (certified_requests g (known ++ f ∷ [])) runs)
    → IsExecutionOf g m known → IsExecutionOf g after (known ++ f ∷ [])
run_learns g m after known f step was =
    let grown = run_grows g known (f ∷ []) was.before was.after was.all in
    record { before = was.before; after = grown.0; all = grown.1; run = step was.before was.run }

pub whole_more : (g : Group) (known : List (Signed Body)) (f : Signed Body) → list_all (is_whole g) known ≡ true →
    is_whole g f ≡ true → list_all (is_whole g) (known ++ f ∷ []) ≡ true
whole_more g known f all one = list_all-append (is_whole g) known (f ∷ []) ∙ and_from (list_all (is_whole g) known)
    (list_all (is_whole g) (f ∷ [])) all (and_from (is_whole g f) true one refl)

pub knows_taken : (g : Group) (me : ℕ) (kept : Knowledge) (after : PreorderState) (taken known : List (Signed Body))
    (past : Past) (said : List Body) (f : Signed Body)
    → Takes kept.preorder after f → Knows g me kept taken known past said →
    Knows g me (record kept { preorder = after }) (taken ++ f ∷ []) known past said
knows_taken g me kept after taken known past said f takes k = record {
  masters = k.masters;
  quorum = k.quorum;
  rules = k.rules;
  whole = k.whole;
  preorder = takes g me taken known said k.preorder;
  matrix = k.matrix;
  order = k.order;
  run = k.run;
  views = k.views;
  ticks_told = k.ticks_told;
  ticks = k.ticks;
  measure = k.measure;
  patience = k.patience;
  wait = k.wait;
  furthest = k.furthest;
  earlier = k.earlier;
  asks = k.asks;
  gifts = k.gifts;
}

-- the group that a knowledge is of is kept in it
pub same_group : (now : Knowledge) (at : IsKnowledge now) (f : Signed Body) →
    is_whole at.group f ≡ is_whole now.preorder.group f
same_group now at f = ap (λ (g : Group). is_whole g f) (sym at.knows.preorder.group)
