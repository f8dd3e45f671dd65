use Rattle.client_roles.proofs.Signing.{client_frames_stand}
use Rattle.client_roles.proofs.laws.client_frames_stand.Goals as goal

pub returns : goal.returns
returns c = client_frames_stand
