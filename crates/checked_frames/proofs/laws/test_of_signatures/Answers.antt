use Rattle.checked_frames.proofs.VerifyingLaws.{verifies-Decides}
use Rattle.checked_frames.proofs.laws.test_of_signatures.Goals as goal

pub returns : goal.returns
returns c = verifies-Decides
