use Rattle.std.proofs.Common.{sym, ◌∙◌}
use Rattle.master_knowledge.proofs.Rules.{first_by, alive_by}
use Rattle.master_knowledge.proofs.sets.are_live.Goals as goal

pub returns-in-First : goal.returns-in-First
returns-in-First c g same = first_by g (sym c.in-First.is ∙ same)

pub returns-in-Live : goal.returns-in-Live
returns-in-Live c g same = alive_by g (sym c.in-Live.is ∙ same)
