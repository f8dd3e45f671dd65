use Rattle.history_audit.proofs.Words.{word_tested}
use Rattle.joined_histories.proofs.waits.is_same_word.Goals as goal

pub returns : goal.returns
returns c = word_tested c.is_same.result c.args.a.now c.args.b.now c.is_same.ensures
