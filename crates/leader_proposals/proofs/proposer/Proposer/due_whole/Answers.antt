-- Until all up to the plan's base is ordered nothing is due; from then on what is due by the first rules.
use Rattle.std.proofs.Common.{cond, [], ◌∙◌, List, sym, ap, subst, append-nil}
use Rattle.message_types.specs.declared.body.Body.{Body}
use Rattle.protocol_rules.specs.Master.{preprepares_due}
use Rattle.leader_proposals.specs.Offering.{AreOffersOf}
use Rattle.leader_proposals.proofs.Offering.{whole-is}
use Rattle.leader_proposals.proofs.proposer.Proposer.due_whole.Goals as goal

pub returns-then-not-is_whole-clause-due : goal.returns-then-not-is_whole-clause-due
returns-then-not-is_whole-clause-due c = λ g me known facts ordered said order matrix view_is open_is leads_is is.
    ap (λ b. cond b (preprepares_due g me known facts said c.args.at_tick) []) (sym c.if-not-is_whole.true)
    ∙ whole-is g me known facts said c.args.at_tick c.is_whole.result c.args.view view_is
    (c.is_whole.ensures g facts ordered order)

pub returns-then-not-is_whole-clause-said : goal.returns-then-not-is_whole-clause-said
returns-then-not-is_whole-clause-said c = λ g facts ordered said order is.
    subst (λ (words : List Body). AreOffersOf g c.args.self.now facts words) (sym (append-nil said)) is

pub returns-clause-due : goal.returns-clause-due
returns-clause-due c = λ g me known facts ordered said order matrix view_is open_is leads_is is.
    c.in_ok-word.ensures.due g me known facts ordered said order matrix view_is open_is leads_is is
    ∙ ap (λ b. cond b (preprepares_due g me known facts said c.args.at_tick) []) (sym c.if-not-is_whole.false)
    ∙ whole-is g me known facts said c.args.at_tick c.is_whole.result c.args.view view_is
    (c.is_whole.ensures g facts ordered order)
