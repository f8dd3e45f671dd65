use Rattle.checked_frames.proofs.StandingLaws.{faultless_stands, stands_faultless, stands_spelled}
use Rattle.checked_frames.proofs.laws.faultless_frames_stand.Goals as goal

pub returns : goal.returns
returns c = λ ring frame. (
  (λ e. (stands_spelled ring frame e, stands_faultless ring frame e)),
  (λ both. faultless_stands ring frame both.0 both.1),
)
