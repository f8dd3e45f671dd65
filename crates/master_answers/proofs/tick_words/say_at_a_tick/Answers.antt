-- The vector that the summary tells is that of the words known, and a proposal rests on the same facts, view
-- and latest rows. So both are what the rules have due, and each part counts its own word as said.
use Rattle.std.proofs.Common.{◌≡◌, ℕ, ◌≤◌, ◌<◌, ◌++◌, List, nat_eq, sym, ◌∙◌, ap, subst}
use Rattle.std.specs.Option.{option_to_list}
use Rattle.message_types.specs.declared.signed.Signed.{Signed}
use Rattle.message_types.specs.declared.body.Body.{Body}
use Rattle.protocol_rules.specs.Group.{Group, leader_of}
use Rattle.protocol_rules.specs.Facts.{facts_of}
use Rattle.master_knowledge.specs.Past.{Past}
use Rattle.protocol_rules.specs.Master.{summaries_due, preprepares_due}
use Rattle.leader_proposals.specs.Offering.{AreOffersOf}
use Rattle.leader_proposals.specs.Saying.{IsSummaryOf}
use Rattle.master_knowledge.specs.Knows.{Knows}
use Rattle.master_answers.proofs.Few.{rows_few}
use Rattle.master_answers.proofs.Joining.{pair}
use Rattle.quorum_sets.proofs.Numbered.{masters_few}
use Rattle.master_answers.proofs.tick_words.say_at_a_tick.Goals as goal

pub vector_of-vector-requires-clause-same : goal.vector_of-vector-requires-clause-same
vector_of-vector-requires-clause-same c = let k = c.requires.known.knows in
    k.masters ∙ sym (ap (λ (g : Group). g.n) k.preorder.group)

pub vector_of-vector-requires-clause-few : goal.vector_of-vector-requires-clause-few
vector_of-vector-requires-clause-few c = masters_few c.args.knowledge.now.sizes

pub due-requires-2-clause-view : goal.due-requires-2-clause-view
due-requires-2-clause-view c = let r = c.requires.known in
    subst (λ v. c.args.proposer.now.progress.view ≤ v)
    (r.knows.views.view ∙ sym (c.view-view.ensures r.group r.own r.known r.said r.knows.views)) c.requires.view

pub due-requires-2-clause-rows : goal.due-requires-2-clause-rows
due-requires-2-clause-rows c = let r = c.requires.known in record {
  group = r.group;
  facts = facts_of r.group r.known;
  said = r.said;
  is = r.knows.order;
  few = rows_few r.group r.known (subst (λ n. n ≤ 14) r.knows.masters (masters_few c.args.knowledge.now.sizes))
      r.knows.whole;
}

module _ (c : goal.In_ok-words) (g : Group) (own : ℕ) (taken known : List (Signed Body)) (past : Past)
    (said : List Body) (is : c.args.me ≡ own) (k : Knows g own c.args.knowledge.now taken known past said) where
  summed_up : IsSummaryOf g c.args.summary.now said →
      option_to_list c.in_ok-summed_up.summed_up ≡ summaries_due g known said c.args.at_tick
  summed_up sum = c.in_ok-summed_up.ensures.due g known said sum
      (λ j less. c.vector_of-vector.ensures g own taken known said k.preorder j
      (subst (λ n. j < n) (sym k.masters) less))

  offered : AreOffersOf g c.args.proposer.now (facts_of g known) said →
      option_to_list c.in_ok-offer.offer ≡ preprepares_due g own known (facts_of g known) said c.args.at_tick
  offered proposer =
      c.in_ok-offer.ensures.due g own known (facts_of g known) said said k.order k.matrix
      (c.view-view.ensures g own known said k.views) (c.is_open-is_open.ensures g own known said k.views)
      (c.is_leader-leads.ensures g k.masters ∙ ap (λ m. nat_eq m (leader_of g c.view-view.result)) is) proposer

pub returns-clause-words : goal.returns-clause-words
returns-clause-words c g own taken known past said k is sum proposer =
    c.in_ok-words.ensures ∙ pair (option_to_list c.in_ok-summed_up.summed_up) (option_to_list c.in_ok-offer.offer) _ _
    (summed_up c g own taken known past said is k sum) (offered c g own taken known past said is k proposer)

pub returns-clause-summary : goal.returns-clause-summary
returns-clause-summary c g own taken known past said k is sum =
    subst (λ (ws : List Body). IsSummaryOf g c.due.new.self (said ++ ws))
    (summed_up c g own taken known past said is k sum) (c.in_ok-summed_up.ensures.said g said sum)

pub returns-clause-proposer : goal.returns-clause-proposer
returns-clause-proposer c g own taken known past said k is proposer =
    subst (λ (ws : List Body). AreOffersOf g c.due-2.new.self (facts_of g known) (said ++ ws))
    (offered c g own taken known past said is k proposer)
    (c.in_ok-offer.ensures.said g (facts_of g known) said said k.order proposer)

pub returns-clause-view : goal.returns-clause-view
returns-clause-view c = let r = c.requires.known in
    subst (λ v. c.due-2.new.self.progress.view ≤ v) (c.view-view.ensures r.group r.own r.known r.said r.knows.views
    ∙ sym r.knows.views.view) c.in_ok-offer.ensures.view
