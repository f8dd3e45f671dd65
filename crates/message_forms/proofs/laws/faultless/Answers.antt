use Rattle.message_forms.proofs.FrameLaws.{faultless}
use Rattle.message_forms.proofs.laws.faultless.Goals as goal

pub returns : goal.returns
returns c = faultless
