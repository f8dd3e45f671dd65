use Rattle.progress.proofs.Serving.{next_view_opens}
use Rattle.progress.proofs.laws.next_view_opens.Goals as goal

pub returns : goal.returns
returns c = next_view_opens
