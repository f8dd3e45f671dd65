use Rattle.words_in_place.proofs.Signing.{said_frames_stand}
use Rattle.words_in_place.proofs.laws.said_frames_stand.Goals as goal

pub returns : goal.returns
returns c = said_frames_stand
