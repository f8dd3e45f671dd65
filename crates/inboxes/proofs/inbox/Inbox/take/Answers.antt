-- A take is a step that keeps what holds of every inbox, and so is seeing it empty, whatever other steps come
-- between. What the queue tells of the step is what the pass knows from then on.
use Rattle.inboxes.proofs.Keeping.{takes, sees}
use Rattle.inboxes.proofs.Telling.{took_told, took_live}
use Rattle.inboxes.proofs.inbox.Inbox.take.Goals as goal

pub pop_as-requires-clause-queue : goal.pop_as-requires-clause-queue
pop_as-requires-clause-queue g c = c.requires.0

pub pop_as-requires-clause-rule : goal.pop_as-requires-clause-rule
pop_as-requires-clause-rule g c = (takes _ _ _ c.requires.1, sees _ _ _)

pub returns-clause-of : goal.returns-clause-of
returns-clause-of g c = (c.pop_as.ensures.queue.0, took_live _ _ _ _ _ c.pop_as.ensures.rule c.requires.1)

pub returns-clause-taken : goal.returns-clause-taken
returns-clause-taken g c = took_told _ _ _ _ _ c.pop_as.ensures.rule
