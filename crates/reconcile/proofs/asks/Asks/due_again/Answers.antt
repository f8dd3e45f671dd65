-- What is due by what was asked for is due by what was said, and counts as said from then on.
use Rattle.std.proofs.Common.{◌||◌, List, map, take, ap, sym, ◌∙◌}
use Rattle.reconcile.specs.declared.wanted.Wanted.{Wanted}
use Rattle.reconcile.specs.Asking.{ask_for, is_among}
use Rattle.reconcile.specs.Again.{is_one_of}
use Rattle.reconcile.specs.AskState.{AskState}
use Rattle.reconcile.proofs.Repeated.{said_again, due_same}
use Rattle.reconcile.proofs.asks.Asks.due_again.Goals as goal

pub returns-clause-bodies : goal.returns-clause-bodies
returns-clause-bodies c g me known said is =
    c.in_ok-bodies.ensures ∙ ap (map ask_for) (c.as_slice.ensures.value ∙ c.in_ok-due.ensures)
    ∙ ap (λ (ws : List Wanted). map ask_for (take c.args.most ws))
    (due_same g me c.args.self.now known said c.self.inside.asked.keys c.args.now c.args.lacking.now
    (ap (λ (v : AskState). v.asked) c.self.view_is) is)

pub returns-clause-counted : goal.returns-clause-counted
returns-clause-counted c g me known said is =
    said_again g me c.args.self.now _ known said _ c.as_slice-2.result.now
    (c.in_ok-bodies.ensures ∙ ap (map ask_for) (c.as_slice.ensures.value ∙ sym c.as_slice-2.ensures.value))
    (ap (λ (v : AskState). v.masters) c.self.view_is) (ap (λ (v : AskState). v.me) c.self.view_is)
    (ap (λ (v : AskState). v.given) c.self.view_is) (ap (λ (v : AskState). v.wanted) c.self.view_is)
    (λ w. c.in_ok-count_each.ensures.ok w
    ∙ ap (λ (v : AskState). is_one_of c.as_slice-2.result.now w || is_among v.asked w) c.self.view_is)
    is
