-- The number held is how far the master's numbers are certified without a gap, which is what the rule counts.
use Rattle.std.proofs.Common.{◌≡◌, ◌<◌, ◌≤◌, ap, arith}
use Rattle.quorum_sets.proofs.Numbered.{masters_few}
use Rattle.preorder.specs.contracts.preorder.Preorder.{the_view}
use Rattle.preorder.specs.PreorderState.{PreorderState}
use Rattle.preorder.proofs.Ranges.{vector-reached}
use Rattle.preorder.proofs.Viewed.{viewed}
use Rattle.preorder.proofs.preorder.Preorder.vector.Goals as goal

pub returns : goal.returns
returns c g me taken known said is =
    let old = viewed g me (the_view c.self.inside) c.args.self.now taken known said c.self.view_is is in
    let size : c.self.inside.sizes.n ≡ c.args.self.now.group.n = ap (λ (p : PreorderState). p.group.n) c.self.view_is in
    let few : c.self.inside.sizes.n ≤ 14 = masters_few c.self.inside.sizes in
    let below : c.args.j < 14 = omega arith in
    vector-reached g known c.args.j _ (old.reach c.args.j below)
