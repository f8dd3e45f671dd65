use Rattle.entry_texts.proofs.TextLaws.{entry-inj}
use Rattle.entry_texts.proofs.laws.one_text.Goals as goal

pub returns : goal.returns
returns c = entry-inj
