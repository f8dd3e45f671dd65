use Rattle.inboxes.proofs.Keeping.{splits}
use Rattle.inboxes.proofs.inbox.Inbox.split.Goals as goal

pub another-seat-requires-clause-queue : goal.another-seat-requires-clause-queue
another-seat-requires-clause-queue g c = c.requires.0

pub another-seat-requires-clause-rule : goal.another-seat-requires-clause-rule
another-seat-requires-clause-rule g c = splits _ _ _ c.requires.1
