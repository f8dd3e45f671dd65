use Rattle.entry_texts.proofs.EventReads.{answer_only}
use Rattle.entry_texts.proofs.read.read_entry.Goals as goal

pub returns-clause-only : goal.returns-clause-only
returns-clause-only c = answer_only _ _ _ c.read_whole.ensures
