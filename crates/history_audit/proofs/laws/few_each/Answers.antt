use Rattle.history_audit.proofs.FewEach.{few_each_are_short, short_are_few_each}
use Rattle.history_audit.proofs.laws.few_each.Goals as goal

pub returns-clause-all : goal.returns-clause-all
returns-clause-all c = few_each_are_short

pub returns-clause-each : goal.returns-clause-each
returns-clause-each c = short_are_few_each
