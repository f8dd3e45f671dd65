-- Number after number nothing is offered, else the loop has returned.
use Rattle.std.proofs.Common.{◌≡◌, false, None, is_some, sym, ◌∙◌, arith, rules}
use Rattle.protocol_rules.specs.Order.{offered}
use Rattle.leader_proposals.proofs.Few.{none-copied}
use Rattle.leader_proposals.proofs.Worthy.{passed-more}
use Rattle.leader_proposals.proofs.worth.offers_within.Goals as goal

pub loop-before-init : goal.loop-before-init
loop-before-init c g facts said is s above within = absurd (omega arith)

pub loop-before-preserved : goal.loop-before-preserved
loop-before-preserved c g facts said is =
    let none : is_some c.offered.result ≡ false = search rules in
    passed-more (λ t. offered facts c.args.view t ≡ None) c.args.from c.loop-before.before
    (sym (c.offered.ensures g facts said is) ∙ none-copied c.offered.result none)
    (c.loop-before.invariant g facts said is)

pub returns : goal.returns
returns c g facts said is s above within = c.loop-before.invariant g facts said is s above (omega arith)
