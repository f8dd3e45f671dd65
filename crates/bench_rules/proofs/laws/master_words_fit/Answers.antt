use Rattle.bench_rules.proofs.FramesStand.{master_words_fit}
use Rattle.bench_rules.proofs.laws.master_words_fit.Goals as goal

pub returns : goal.returns
returns c = master_words_fit
