-- What a master that has caught up knows once its wait was asked for.
use Rattle.std.proofs.Common.{◌≡◌, ℕ, ◌≤◌, List, sym, ◌∙◌, subst}
use Rattle.message_types.specs.declared.signed.Signed.{Signed}
use Rattle.message_types.specs.declared.body.Body.{Body}
use Rattle.quorum_sets.proofs.Numbered.{masters_few}
use Rattle.protocol_rules.specs.declared.limits.TheConstants.{MOST_VIEW}
use Rattle.protocol_rules.specs.Group.{Group, most_view}
use Rattle.protocol_rules.specs.Facts.{facts_of}
use Rattle.protocol_rules.specs.Views.{view}
use Rattle.view_change.specs.ViewState.{AreViewsOf}
use Rattle.leader_proposals.specs.Counting.{KnowsFewRows}
use Rattle.master_knowledge.specs.declared.knowledge.Knowledge.{Knowledge}
use Rattle.master_knowledge.specs.Past.{Past}
use Rattle.master_knowledge.specs.Knows.{Knows, IsKnowledge, IsCaughtUp}
use Rattle.master_answers.specs.declared.replica_state.ReplicaState.{ReplicaState}
use Rattle.master_answers.specs.Replica.{IsReplicaState}
use Rattle.master_answers.proofs.Few.{rows_few}

-- whoever caught up has this knowledge then
abbrev pub Stays : Knowledge → Knowledge → Type 0
Stays old new = (g : Group) (me : ℕ) (taken known : List (Signed Body)) (past : Past) (said : List Body) →
    Knows g me old taken known past said → IsCaughtUp g old known → Knows g me new taken known past said

pub still_known : (kept : ReplicaState) (new : Knowledge) → IsReplicaState kept → Stays kept.knowledge new →
    IsKnowledge new
still_known kept new r stays = record {
  group = r.group;
  own = r.own;
  taken = r.taken;
  known = r.known;
  past = r.past;
  said = r.said;
  knows = stays r.group r.own r.taken r.known r.past r.said r.is_replica.knows r.caught;
}

-- it offered in no later view than its own
pub offered_by_then : (kept : ReplicaState) (new : Knowledge) → IsReplicaState kept → Stays kept.knowledge new →
    kept.proposer.progress.view ≤ new.views.view
offered_by_then kept new r stays =
    let knows = stays r.group r.own r.taken r.known r.past r.said r.is_replica.knows r.caught in
    subst (λ v. kept.proposer.progress.view ≤ v) (sym knows.views.view) r.is_replica.view

pub few_rows : (k : Knowledge) → IsKnowledge k → KnowsFewRows k.order
few_rows k r = record {
  group = r.group;
  facts = facts_of r.group r.known;
  said = r.said;
  is = r.knows.order;
  few = rows_few r.group r.known (subst (λ n. n ≤ 14) r.knows.masters (masters_few k.sizes)) r.knows.whole;
}

pub view_few : (k : Knowledge) (v : ℕ) → IsKnowledge k →
    ((g : Group) (me : ℕ) (known : List (Signed Body)) (said : List Body) → AreViewsOf g me k.views known said →
    v ≡ view g known) → v ≤ MOST_VIEW
unfolding most_view
view_few k v r is =
    subst (λ w. w ≤ MOST_VIEW) (r.knows.views.view ∙ sym (is r.group r.own r.known r.said r.knows.views))
    r.knows.views.limit
