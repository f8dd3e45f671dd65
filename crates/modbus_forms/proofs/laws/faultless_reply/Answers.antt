use Rattle.modbus_forms.proofs.Messages.{reply_faultless}
use Rattle.modbus_forms.proofs.laws.faultless_reply.Goals as goal

pub returns : goal.returns
returns c = reply_faultless
