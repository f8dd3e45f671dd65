use Rattle.std.proofs.Common.{◌∙◌, ap}
use Rattle.reconcile.specs.Asking.{is_among}
use Rattle.reconcile.specs.AskState.{AskState}
use Rattle.reconcile.proofs.Sets.{among_is}
use Rattle.reconcile.proofs.asks.Asks.has_asked.Goals as goal

pub returns : goal.returns
returns c g me known said is =
    c.contains.ensures ∙ among_is c.self.inside.asked.keys c.args.wanted.now
    ∙ ap (λ (v : AskState). is_among v.asked c.args.wanted.now) c.self.view_is ∙ is.asked c.args.wanted.now
