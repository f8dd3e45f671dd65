use Rattle.progress.proofs.Marked.{marks_arrive}
use Rattle.progress.proofs.laws.marks_arrive.Goals as goal

pub returns : goal.returns
returns c = marks_arrive
