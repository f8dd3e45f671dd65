-- In a closed view a master waits in any case. In an open one it waits where the rows reach further than the
-- execution, which is caught up, so its reach is that of the ordered numbers.
use Rattle.std.proofs.Common.{◌≤◌, not, sym, ◌∙◌, ap, subst}
use Rattle.master_knowledge.proofs.Waiting.{waits_closed, waits_open}
use Rattle.quorum_sets.proofs.Numbered.{masters_few}
use Rattle.master_knowledge.proofs.knowledge.Knowledge.waits.Goals as goal

pub returns-then-not-is_open : goal.returns-then-not-is_open
returns-then-not-is_open c g me taken known past said k caught =
    ap not c.if-not-is_open.true
    ∙ sym (waits_closed g known (sym (c.is_open.ensures g me known said k.views) ∙ c.if-not-is_open.true))

pub returns-else-not-is_open : goal.returns-else-not-is_open
returns-else-not-is_open c g me taken known past said k caught =
    c.exceeds.ensures g known k.matrix
    ∙ waits_open g known c.reach.result.numbers (subst (λ n. n ≤ 14) k.masters (masters_few c.args.self.now.sizes))
    (sym (c.is_open.ensures g me known said k.views) ∙ c.if-not-is_open.false)
    (c.reach.ensures g _ _ caught)
