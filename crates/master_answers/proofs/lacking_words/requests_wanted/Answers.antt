-- What is executed reaches as far as what is ordered, and what was shown four ticks before counts at each 4th tick.
use Rattle.std.proofs.Common.{◌<◌, ◌≤◌, ◌%◌, cond, min, max, reverse, get_or, nat_eq, sym, ◌∙◌, ap, subst, arith}
use Rattle.quorum_sets.proofs.Numbered.{masters_few}
use Rattle.protocol_rules.specs.declared.limits.TheConstants.{MOST_NUMBER}
use Rattle.protocol_rules.specs.Group.{most_number}
use Rattle.protocol_rules.specs.Lacking.{shown_before}
use Rattle.master_knowledge.specs.Knows.{ordered_reach}
use Rattle.master_answers.proofs.lacking_words.requests_wanted.Goals as goal

pub returns : goal.returns
unfolding most_number
returns c g me taken known past said k caught at j lt =
    let few : g.n ≤ 14 = subst (λ n. n ≤ 14) k.masters (masters_few c.args.knowledge.now.sizes) in
    let within : j < 14 = omega arith in
    c.capped.ensures j within
    ∙ ap (min MOST_NUMBER) (c.raise_if.ensures j within
    ∙ ap (λ x. max x (cond (nat_eq (c.args.now % 4) 0) (get_or c.before-2.result.numbers j 0) 0))
    (c.reach-reach.ensures g _ _ caught j within)
    ∙ ap (λ y. max (ordered_reach g known j) (cond (nat_eq (c.args.now % 4) 0) y 0))
    (c.before-2.ensures g past.moments k.earlier j lt
    ∙ ap (λ n. get_or (shown_before (reverse past.moments) n) j 0) (sym at)))
