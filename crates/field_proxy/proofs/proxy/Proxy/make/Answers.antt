-- A fresh proxy has no votes, so nothing is done and no writes are kept; its device and points are the plant's.
-- So what a proxy keeps true holds from the start.
use Rattle.std.proofs.Common.{arith, ap, ◌∙◌, length}
use Rattle.std.proofs.lemmas.List.{length-replicate}
use Rattle.field_proxy.proofs.FrontLaws.{front_made}
use Rattle.field_proxy.proofs.proxy.Proxy.make.Goals as goal

pub invariant_of-result : goal.invariant_of-result
invariant_of-result c = (
  omega (arith, c.requires.few, ap length c.in_ok-points.ensures),
  ap length c.in_ok-none_said.ensures ∙ length-replicate _ _ ∙ c.len-count.ensures,
)

pub returns-clause-made : goal.returns-clause-made
returns-clause-made c =
    front_made c.args.plant.now.devices c.args.client c.args.sizes.n c.args.sizes.f c.args.plant.now.points
    c.in_ok-points.points c.device_of-sizes_of_device.result
    _ _ _ _ _ _ _ c.device_of-sizes_of_device.ensures c.in_ok-points.ensures c.in_ok-make.ensures c.new.ensures
    c.in_ok-none_said.ensures c.len-count.ensures
    c.new-2.ensures c.new-3.ensures.items
