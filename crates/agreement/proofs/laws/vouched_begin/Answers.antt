use Rattle.agreement.proofs.VouchedIsOrdered.{vouched_begin}
use Rattle.agreement.proofs.laws.vouched_begin.Goals as goal

pub returns : goal.returns
returns c = vouched_begin
