-- A body that gives the thing makes it one of those given and no longer wanted. Nothing else changes in either
-- set, as one insertion and one removal change one member.
use Rattle.std.proofs.Common.{◌||◌, false, cond, ap, ◌∙◌}
use Rattle.reconcile.specs.Asking.{same_wanted, is_among}
use Rattle.reconcile.specs.AskState.{AskState}
use Rattle.reconcile.proofs.Sets.{among_put, among_removed}
use Rattle.reconcile.proofs.Said.{given_said}
use Rattle.reconcile.proofs.asks.Asks.given.Goals as goal

pub returns-clause-ok : goal.returns-clause-ok
returns-clause-ok c = λ body gift g me known said is.
    given_said g me c.args.self.now _ known said body c.args.wanted.now gift
    (ap (λ (v : AskState). v.masters) c.self.view_is) (ap (λ (v : AskState). v.me) c.self.view_is)
    (ap (λ (v : AskState). v.asked) c.self.view_is)
    (λ w. among_put c.self.inside.given c.insert.new.self c.args.wanted.now w c.in_ok-insert.ensures.updates
    ∙ ap (λ (v : AskState). same_wanted c.args.wanted.now w || is_among v.given w) c.self.view_is)
    (λ w. among_removed c.self.inside.wanted c.remove.new.self c.args.wanted.now w c.remove.ensures.updates
    ∙ ap (λ (v : AskState). cond (same_wanted c.args.wanted.now w) false (is_among v.wanted w)) c.self.view_is)
    is
