use Rattle.checked_frames.proofs.SigningLaws.{field_at-signs}
use Rattle.checked_frames.proofs.laws.groups_sign.Goals as goal

pub returns : goal.returns
returns c = field_at-signs
