-- The loop goes over the numbers above those ordered without a gap, and stops at the first that adds nothing, or at the
-- window's end. So all up to there are worth a prepare, and all of the plan, and no others.
use Rattle.std.proofs.Common.{◌≡◌, ◌+◌, true, Option, ap, subst, arith}
use Rattle.protocol_rules.specs.Order.{gapless}
use Rattle.protocol_rules.specs.Worth.{adds, plan_end}
use Rattle.summary_matrix.specs.declared.reach.Reach.{Reach}
use Rattle.leader_proposals.specs.Worthy.{IsAdded}
use Rattle.leader_proposals.proofs.Worthy.{before-first, passed-more, planned-here, worth-to}
use Rattle.leader_proposals.proofs.worth.last_added.Goals as goal

pub loop-last-init : goal.loop-last-init
loop-last-init c g facts said is sizes told =
    let start : c.gapless-start.result ≡ gapless g facts = c.gapless-start.ensures g facts said is in (
      before-first g facts c.args.view (c.gapless-start.result + 1) c.args.reach.now.numbers (ap (λ n. n + 1) start) told,
      λ t above le. absurd (omega arith),
    )

pub loop-last-preserved : goal.loop-last-preserved
loop-last-preserved c g facts said is sizes told =
    let so_far = c.loop-last.invariant g facts said is sizes told in
    let start : c.gapless-start.result ≡ gapless g facts = c.gapless-start.ensures g facts said is in
    let planned = planned-here c.loop-last.last c.planned_to-planned.result (plan_end facts c.args.view)
    c.window_end-limit.result (c.planned_to-planned.ensures g facts said is) (omega arith) in
    let found = subst (λ (o : Option Reach). IsAdded g facts c.args.view (c.loop-last.last + 1) o) c.in-Some.is
    (c.added.ensures g facts said is sizes planned (omega arith) so_far.0) in
    (found.1, passed-more (λ t. adds g facts c.args.view t ≡ true) (gapless g facts) c.loop-last.last found.0 so_far.1)

pub returns-in-None : goal.returns-in-None
returns-in-None c g facts said is sizes told =
    let so_far = c.loop-last.invariant g facts said is sizes told in
    let start : c.gapless-start.result ≡ gapless g facts = c.gapless-start.ensures g facts said is in
    let planned = planned-here c.loop-last.last c.planned_to-planned.result (plan_end facts c.args.view)
    c.window_end-limit.result (c.planned_to-planned.ensures g facts said is) (omega arith) in
    let found = subst (λ (o : Option Reach). IsAdded g facts c.args.view (c.loop-last.last + 1) o) c.in-None.is
    (c.added.ensures g facts said is sizes planned (omega arith) so_far.0) in
    worth-to g facts c.args.view c.window_end-limit.result c.planned_to-planned.result c.loop-last.last c.max.result
    (c.window_end-limit.ensures g facts said is) (c.planned_to-planned.ensures g facts said is) (omega arith) so_far.1
    (λ less. found) c.max.ensures

pub returns : goal.returns
returns c g facts said is sizes told =
    let so_far = c.loop-last.invariant g facts said is sizes told in
    let start : c.gapless-start.result ≡ gapless g facts = c.gapless-start.ensures g facts said is in
    let ended : c.loop-last.last ≡ c.max-end.result = omega arith in
    worth-to g facts c.args.view c.window_end-limit.result c.planned_to-planned.result c.loop-last.last c.max-2.result
    (c.window_end-limit.ensures g facts said is) (c.planned_to-planned.ensures g facts said is) (omega arith) so_far.1
    (λ less. absurd (omega arith)) (omega arith)
