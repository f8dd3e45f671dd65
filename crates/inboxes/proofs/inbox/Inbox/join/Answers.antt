use Rattle.inboxes.proofs.Keeping.{joins}
use Rattle.inboxes.proofs.inbox.Inbox.join.Goals as goal

pub absorb-requires-clause-queue : goal.absorb-requires-clause-queue
absorb-requires-clause-queue g c = (c.requires.0.0, c.requires.1.0)

pub absorb-requires-clause-rule : goal.absorb-requires-clause-rule
absorb-requires-clause-rule g c = joins _ _ _ _ _ c.requires.0.1
