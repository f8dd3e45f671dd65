use Rattle.master_answers.proofs.Growing.{knowledge_may_grow, events_may_grow}
use Rattle.master_answers.proofs.laws.knowledge_may_grow.Goals as goal

pub returns-clause-words : goal.returns-clause-words
returns-clause-words c = knowledge_may_grow

pub returns-clause-events : goal.returns-clause-events
returns-clause-events c = events_may_grow
