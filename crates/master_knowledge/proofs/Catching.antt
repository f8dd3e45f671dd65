-- An execution that catches up with what is ordered.
use Rattle.std.proofs.Common.{◌≡◌, ℕ, ◌+◌, List, [], ◌++◌, length, length-append, sym, ◌∙◌, ap, subst, arith}
use Rattle.std.proofs.lemmas.List.{append-nil}
use Rattle.message_types.specs.declared.signed.Signed.{Signed}
use Rattle.message_types.specs.declared.body.Body.{Body}
use Rattle.protocol_rules.specs.Group.{Group}
use Rattle.protocol_rules.specs.Places.{are_rows}
use Rattle.protocol_rules.specs.Facts.{facts_of}
use Rattle.protocol_rules.specs.Order.{ordered, ordered_run, gapless}
use Rattle.master_knowledge.specs.Past.{Past}
use Rattle.protocol_rules.specs.Master.{certified_requests}
use Rattle.global_order.specs.OrderState.{IsOrderOf}
use Rattle.execution.specs.Ran.{Ran, IsRunOf}
use Rattle.master_knowledge.specs.Knows.{Knows}
use Rattle.master_knowledge.specs.Numbers.{IsBehind}
use Rattle.master_knowledge.specs.declared.knowledge.Knowledge.{Knowledge}
use Rattle.master_knowledge.proofs.Placed.{ordered_placed}

pub is_behind : (g : Group) (me : ℕ) (kept : Knowledge) (taken known : List (Signed Body)) (past : Past)
    (said : List Body) → Knows g me kept taken known past said → IsBehind kept.run kept.order
is_behind g me kept taken known past said k = record {
  facts = facts_of g known;
  said = said;
  is = subst (λ (h : Group). IsOrderOf h kept.order (facts_of g known) said) (sym k.run.run.group) k.order;
  numbers =
      let many : gapless kept.run.group (facts_of g known) ≡ length (k.run.before ++ k.run.after) =
      ap (λ (h : Group). gapless h (facts_of g known)) k.run.run.group ∙ ap length k.run.all in
      let parts : length (k.run.before ++ k.run.after) ≡ length k.run.before + length k.run.after =
      length-append k.run.before k.run.after in
      let taken_so_far : kept.run.numbers ≡ length k.run.before = k.run.run.numbers in
      omega arith;
  rows = λ s rows e. ap (λ (h : Group). are_rows h rows) k.run.run.group ∙ ordered_placed g known k.whole s rows
      (ap (λ (h : Group). ordered h (facts_of g known) s) (sym k.run.run.group) ∙ e);
}

pub caught_run : (g : Group) (me : ℕ) (kept : Knowledge) (now : Ran) (taken known : List (Signed Body))
    (past : Past) (said : List Body) → (k : Knows g me kept taken known past said)
    → ((before after : List (List (List ℕ))) → ordered_run g (facts_of g known) ≡ before ++ after →
    IsRunOf g kept.run (certified_requests g known) before →
    IsRunOf g now (certified_requests g known) (ordered_run g (facts_of g known)))
    → IsRunOf g now (certified_requests g known) (ordered_run g (facts_of g known))
caught_run g me kept now taken known past said k step = step k.run.before k.run.after k.run.all k.run.run

pub knows_caught : (g : Group) (me : ℕ) (kept : Knowledge) (now : Ran) (taken known : List (Signed Body))
    (past : Past) (said : List Body) → Knows g me kept taken known past said
    → IsRunOf g now (certified_requests g known) (ordered_run g (facts_of g known)) →
    Knows g me (record kept { run = now }) taken known past said
knows_caught g me kept now taken known past said k run = record {
  masters = k.masters;
  quorum = k.quorum;
  rules = k.rules;
  whole = k.whole;
  preorder = k.preorder;
  matrix = k.matrix;
  order = k.order;
  run = record {
    before = ordered_run g (facts_of g known);
    after = [];
    all =
        sym (append-nil (ordered_run g (facts_of g known)));
    run = run;
  };
  views = k.views;
  ticks_told = k.ticks_told;
  ticks = k.ticks;
  measure = k.measure;
  patience = k.patience;
  wait = k.wait;
  furthest = k.furthest;
  earlier = k.earlier;
  asks = k.asks;
  gifts = k.gifts;
}
