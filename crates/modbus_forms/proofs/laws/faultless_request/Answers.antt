use Rattle.modbus_forms.proofs.Messages.{request_faultless}
use Rattle.modbus_forms.proofs.laws.faultless_request.Goals as goal

pub returns : goal.returns
returns c = request_faultless
