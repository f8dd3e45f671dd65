-- A post is a step that keeps what holds of every inbox, whatever other posts and takes come between. What the
-- queue tells of that step is what the pass knows from then on.
use Rattle.inboxes.proofs.Keeping.{posts}
use Rattle.inboxes.proofs.Telling.{posted_told, posted_live}
use Rattle.inboxes.proofs.inbox.Inbox.post.Goals as goal

pub push_as-requires-clause-queue : goal.push_as-requires-clause-queue
push_as-requires-clause-queue g c = c.requires.of.0

pub push_as-requires-clause-rule : goal.push_as-requires-clause-rule
push_as-requires-clause-rule g c n = posts _ _ _ _ _ c.requires.of.1 c.requires.fits

pub returns-clause-of : goal.returns-clause-of
returns-clause-of g c = (c.push_as.ensures.queue.0, posted_live _ _ _ _ _ _ c.push_as.ensures.rule c.requires.of.1)

pub returns-clause-posted : goal.returns-clause-posted
returns-clause-posted g c = posted_told _ _ _ _ _ _ c.push_as.ensures.rule
