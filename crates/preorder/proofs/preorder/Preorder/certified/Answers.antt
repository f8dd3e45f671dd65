use Rattle.std.proofs.Common.{◌∙◌, ap}
use Rattle.preorder.specs.PreorderState.{PreorderState, certified_in}
use Rattle.preorder.proofs.preorder.Preorder.certified.Goals as goal

pub returns : goal.returns
returns c = c.get.ensures.value ∙ ap (λ (p : PreorderState). certified_in p c.args.j c.args.k) c.self.view_is
