use Rattle.checked_frames.proofs.StandingLaws.{parts_stand}
use Rattle.checked_frames.proofs.laws.parts_stand.Goals as goal

pub returns : goal.returns
returns c = parts_stand
