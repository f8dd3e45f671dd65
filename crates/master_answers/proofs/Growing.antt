-- What a master keeps in order to speak, before anything is known, and as more becomes known.
use Rattle.std.proofs.Common.{◌≡◌, ℕ, ◌≤◌, List, [], ◌++◌, sym, subst, arith}
use Rattle.plain_lists.proofs.Members.{in_left}
use Rattle.message_types.specs.declared.signed.Signed.{Signed}
use Rattle.message_types.specs.declared.body.Body.{Body}
use Rattle.protocol_rules.specs.declared.facts.OrderFact.{OrderFact}
use Rattle.protocol_rules.specs.Group.{Group}
use Rattle.protocol_rules.specs.Facts.{facts_of}
use Rattle.reconcile.specs.Shares.{AreSharesOf}
use Rattle.master_knowledge.specs.Past.{Past}
use Rattle.protocol_rules.specs.Views.{view}
use Rattle.agreement.proofs.QuorumsStay.{view_more}
use Rattle.leader_proposals.specs.Offering.{Offered, AreOffersOf}
use Rattle.leader_proposals.proofs.Offering.{offers-facts}
use Rattle.master_knowledge.specs.declared.knowledge.Knowledge.{Knowledge}
use Rattle.master_knowledge.specs.Knows.{Knows}
use Rattle.master_answers.specs.declared.replica_state.ReplicaState.{ReplicaState}
use Rattle.master_answers.specs.Replica.{IsReplicaOf}
use Rattle.protocol_rules.proofs.Told.{told_more, none_told}

pub starts_offers : (g : Group) (kept : Offered) → AreOffersOf g kept [] [] → AreOffersOf g kept (facts_of g []) []
starts_offers g kept is = subst (λ (facts : List OrderFact). AreOffersOf g kept facts []) (sym (none_told g)) is

pub from_zero : (v w : ℕ) → v ≡ 0 → v ≤ w
from_zero v w e = omega arith

pub view_grows : (g : Group) (known more : List (Signed Body)) (v : ℕ) → v ≤ view g known → v ≤ view g (known ++ more)
view_grows g known more v le = let grown : view g known ≤ view g (known ++ more) =
    view_more g known (known ++ more) (λ x h. in_left more h) in omega arith

pub offers_grow : (g : Group) (kept : Offered) (known more : List (Signed Body)) (said : List Body) →
    AreOffersOf g kept (facts_of g known) said → AreOffersOf g kept (facts_of g (known ++ more)) said
offers_grow g kept known more said is = subst (λ (facts : List OrderFact). AreOffersOf g kept facts said)
    (sym (told_more g known more)) (offers-facts kept (facts_of g more) g (facts_of g known) said is)

pub knowledge_may_grow : (g : Group) (me : ℕ) (kept : ReplicaState) (knowledge : Knowledge)
    (taken then_taken known more : List (Signed Body)) (past then_past : Past) (said : List Body)
    → Knows g me knowledge then_taken (known ++ more) then_past said → then_past.answered ≡ past.answered
    → IsReplicaOf g me kept taken known past said
    → IsReplicaOf g me (record kept { knowledge = knowledge }) then_taken (known ++ more) then_past said
knowledge_may_grow g me kept knowledge taken then_taken known more past then_past said knows same is_replica = record {
  own = is_replica.own;
  knows = knows;
  summary = is_replica.summary;
  proposer = offers_grow g kept.proposer known more said is_replica.proposer;
  view = view_grows g known more kept.proposer.progress.view is_replica.view;
  vouchers = is_replica.vouchers;
  shares = λ live. subst (AreSharesOf kept.shares) (sym same) (is_replica.shares live);
}

pub events_may_grow : (g : Group) (me : ℕ) (kept : ReplicaState) (knowledge : Knowledge)
    (taken known : List (Signed Body)) (past then_past : Past) (said : List Body)
    → Knows g me knowledge taken known then_past said → then_past.answered ≡ past.answered
    → IsReplicaOf g me kept taken known past said
    → IsReplicaOf g me (record kept { knowledge = knowledge }) taken known then_past said
events_may_grow g me kept knowledge taken known past then_past said knows same is_replica = record {
  own = is_replica.own;
  knows = knows;
  summary = is_replica.summary;
  proposer = is_replica.proposer;
  view = is_replica.view;
  vouchers = is_replica.vouchers;
  shares = λ live. subst (AreSharesOf kept.shares) (sym same) (is_replica.shares live);
}
