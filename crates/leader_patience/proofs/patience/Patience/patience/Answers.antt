use Rattle.std.proofs.Common.{◌/◌, ◌∙◌, ℕ, min, ap}
use Rattle.leader_patience.specs.PatienceState.{PatienceState}
use Rattle.leader_patience.proofs.Due.{patience_is}
use Rattle.leader_patience.proofs.patience.Patience.patience.Goals as goal

pub returns : goal.returns
returns c = λ g known said is.
    patience_is g c.args.self.now known said c.args.view c.from.result c.min-rounds.result c.args.now
    (c.from.ensures ∙ ap (λ (k : PatienceState). k.group.n) c.self.view_is) (c.min-rounds.ensures ∙ ap (λ (x : ℕ). min (x / c.from.result) 16) c.saturating_sub-unforgiven.ensures) is
