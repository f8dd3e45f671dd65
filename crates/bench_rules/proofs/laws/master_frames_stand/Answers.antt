use Rattle.bench_rules.proofs.FramesStand.{master_frames_stand}
use Rattle.bench_rules.proofs.laws.master_frames_stand.Goals as goal

pub returns : goal.returns
returns c = master_frames_stand
