use Rattle.reconcile.proofs.Sharing.{no_counts}
use Rattle.reconcile.proofs.shares.Shares.new.Goals as goal

pub returns : goal.returns
returns c asker few = no_counts 14 asker
