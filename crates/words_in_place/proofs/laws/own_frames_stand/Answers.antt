use Rattle.words_in_place.proofs.Standing.{own_frames_stand}
use Rattle.words_in_place.proofs.laws.own_frames_stand.Goals as goal

pub returns : goal.returns
returns c = own_frames_stand
