use Rattle.field_proxy.proofs.SaidLaws.{lasts_after}
use Rattle.field_proxy.proofs.laws.lasts_are_said.Goals as goal

pub returns : goal.returns
returns c = lasts_after
