use Rattle.message_forms.proofs.FrameLaws.{no_prefix}
use Rattle.message_forms.proofs.laws.one_spelling.Goals as goal

pub returns : goal.returns
returns c = no_prefix
