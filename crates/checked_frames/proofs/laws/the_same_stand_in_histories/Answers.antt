use Rattle.checked_frames.proofs.StandingLaws.{same_as_in_histories}
use Rattle.checked_frames.proofs.laws.the_same_stand_in_histories.Goals as goal

pub returns : goal.returns
returns c = same_as_in_histories
