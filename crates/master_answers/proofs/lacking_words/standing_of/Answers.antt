-- Each figure is one part's, over all that the master knows and said.
use Rattle.std.proofs.Common.{◌≡◌, ◌≤◌, ◌<◌, ◌+◌, ℕ, List, ◌∙◌, ap, arith, rules}
use Rattle.std.specs.List.{list_any}
use Rattle.protocol_rules.specs.declared.limits.TheConstants.{MOST_NUMBER}
use Rattle.protocol_rules.specs.declared.facts.OrderFact.{OrderFact}
use Rattle.protocol_rules.specs.Group.{Group, most_number}
use Rattle.protocol_rules.specs.Order.{gapless}
use Rattle.protocol_rules.specs.Facts.{facts_of}
use Rattle.protocol_rules.specs.Reconcile.{orders_asked}
use Rattle.master_knowledge.proofs.NextRows.{gapless_small}
use Rattle.master_answers.proofs.Lacked.{next_asked, not_next_asked}
use Rattle.master_answers.proofs.lacking_words.standing_of.Goals as goal

few : (g : Group) (facts : List OrderFact) (number : ℕ) → number ≡ gapless g facts → number ≤ MOST_NUMBER
unfolding most_number
few g facts number is =
    let small : gapless g facts ≤ MOST_NUMBER = gapless_small g facts in
    omega arith

pub overflow_add-gapless : goal.overflow_add-gapless
overflow_add-gapless c =
    let k = c.requires in
    let small : c.gapless-gapless.result ≤ 4096 = few k.group (facts_of k.group k.known) c.gapless-gapless.result
    (c.gapless-gapless.ensures k.group (facts_of k.group k.known) k.said k.knows.order) in
    let fits : c.gapless-gapless.result + 1 < 18446744073709551616 = omega arith in
    search rules

pub returns-then-had_asked-clause-few : goal.returns-then-had_asked-clause-few
returns-then-had_asked-clause-few c =
    let k = c.requires in
    few k.group (facts_of k.group k.known) c.gapless-gapless.result
    (c.gapless-gapless.ensures k.group (facts_of k.group k.known) k.said k.knows.order)

pub returns-else-had_asked-clause-few : goal.returns-else-had_asked-clause-few
returns-else-had_asked-clause-few c =
    let k = c.requires in
    few k.group (facts_of k.group k.known) c.gapless-gapless.result
    (c.gapless-gapless.ensures k.group (facts_of k.group k.known) k.said k.knows.order)

pub returns-then-had_asked-clause-stands : goal.returns-then-had_asked-clause-stands
returns-then-had_asked-clause-stands c g me taken known past said k =
    let is : c.gapless-gapless.result ≡ gapless g (facts_of g known) =
    c.gapless-gapless.ensures g (facts_of g known) said k.order in
    record {
      ordered = is;
      some = c.some_come_to.ensures g (facts_of g known) k.furthest;
      base = c.open_base.ensures g me taken known past said k;
      next = next_asked c.has_asked-had_asked.result c.has_asked-has_asked.result _ _ c.if-had_asked.true
          (c.has_asked-had_asked.ensures g me known said k.asks ∙ ap (λ s. list_any (orders_asked s) said) is)
          (c.has_asked-has_asked.ensures g me known said k.asks ∙ ap (λ s. list_any (orders_asked (s + 1)) said) is);
    }

pub returns-else-had_asked-clause-stands : goal.returns-else-had_asked-clause-stands
returns-else-had_asked-clause-stands c g me taken known past said k =
    let is : c.gapless-gapless.result ≡ gapless g (facts_of g known) =
    c.gapless-gapless.ensures g (facts_of g known) said k.order in
    record {
      ordered = is;
      some = c.some_come_to.ensures g (facts_of g known) k.furthest;
      base = c.open_base.ensures g me taken known past said k;
      next = not_next_asked c.has_asked-had_asked.result _ _ c.if-had_asked.false
          (c.has_asked-had_asked.ensures g me known said k.asks ∙ ap (λ s. list_any (orders_asked s) said) is);
    }
