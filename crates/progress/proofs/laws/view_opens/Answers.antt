use Rattle.progress.proofs.Opening.{view_opens}
use Rattle.progress.proofs.laws.view_opens.Goals as goal

pub returns : goal.returns
returns c = view_opens
