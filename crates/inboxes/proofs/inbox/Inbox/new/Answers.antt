use Rattle.inboxes.proofs.Keeping.{begins}
use Rattle.inboxes.proofs.inbox.Inbox.new.Goals as goal

pub with_rule-requires : goal.with_rule-requires
with_rule-requires g c = begins _
