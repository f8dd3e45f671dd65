use Rattle.modbus_forms.proofs.Messages.{request_no_prefix}
use Rattle.modbus_forms.proofs.laws.one_request_spelling.Goals as goal

pub returns : goal.returns
returns c = request_no_prefix
