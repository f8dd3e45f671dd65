use Rattle.modbus_forms.proofs.Messages.{reply_no_prefix}
use Rattle.modbus_forms.proofs.laws.one_reply_spelling.Goals as goal

pub returns : goal.returns
returns c = reply_no_prefix
