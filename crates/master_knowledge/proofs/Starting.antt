-- What is kept before anything is known.
use Rattle.std.proofs.Common.{List, [], None, refl, sym, subst}
use Rattle.protocol_rules.specs.declared.facts.OrderFact.{OrderFact}
use Rattle.protocol_rules.specs.Group.{Group}
use Rattle.protocol_rules.specs.Facts.{facts_of}
use Rattle.protocol_rules.specs.Order.{ordered_run}
use Rattle.protocol_rules.specs.Master.{certified_requests}
use Rattle.preorder.proofs.Others.{certified-empty}
use Rattle.global_order.specs.OrderState.{OrderState, IsOrderOf}
use Rattle.execution.specs.Ran.{Ran, IsRunOf}
use Rattle.lacking.specs.Come.{FurthestState, IsFurthestOf}
use Rattle.master_knowledge.specs.Knows.{IsExecutionOf}
use Rattle.master_knowledge.proofs.Certified.{run_same}
use Rattle.protocol_rules.proofs.Told.{none_told}

pub starts_order : (g : Group) (o : OrderState) → IsOrderOf g o [] [] → IsOrderOf g o (facts_of g []) []
starts_order g o is = subst (λ (facts : List OrderFact). IsOrderOf g o facts []) (sym (none_told g)) is

pub starts_far : (g : Group) (m : FurthestState) → IsFurthestOf g m [] → IsFurthestOf g m (facts_of g [])
starts_far g m is = subst (λ (facts : List OrderFact). IsFurthestOf g m facts) (sym (none_told g)) is

pub starts_run : (g : Group) (m : Ran) → IsRunOf g m (λ r. None) [] → IsExecutionOf g m []
starts_run g m is = record {
  before = [];
  after = ordered_run g (facts_of g []);
  all = refl;
  run = run_same g m (λ r. None) (certified_requests g []) [] (λ r. certified-empty g r.j r.k) is;
}
