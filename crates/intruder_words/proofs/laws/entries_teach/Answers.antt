-- What was overheard is the parts of each entry's taken or cried frame in turn: so one entry more adds its own
-- at the end, by kinds of event, and one that neither takes nor cries adds nothing.
use Rattle.intruder_words.proofs.Learning.{more, took, cried-own, others}
use Rattle.intruder_words.proofs.laws.entries_teach.Goals as goal

pub returns-clause-all : goal.returns-clause-all
returns-clause-all c = more

pub returns-clause-took : goal.returns-clause-took
returns-clause-took c = took

pub returns-clause-own_cry : goal.returns-clause-own_cry
returns-clause-own_cry c = cried-own

pub returns-clause-others : goal.returns-clause-others
returns-clause-others c = others
