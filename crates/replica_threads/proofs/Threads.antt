-- Threads share what the hands of a run share, and how the run goes.
use denote.Ref.{NamedLft}
use denote.Param.Send.{IsSend, IsSync, sendable}
use Rattle.std.proofs.Crossing.{crosses}
use Rattle.replica_threads.proofs.ActorsCross.{scenario_sync}
use Rattle.checked_frames.proofs.key_ring.KeyRing.TheSendSync as ring
use Rattle.inboxes.proofs.inbox.Inbox.TheSendSync as inbox
use Rattle.replica_threads.proofs.posted.Posted.TheSendSync as posted
use Rattle.stamps.proofs.source.Stamps.TheSendSync as stamps
use Rattle.replica_threads.specs.contracts.shared.Shared as Shared
use Rattle.replica_threads.specs.contracts.course.Course as Course

pub shared_sync : (a : NamedLft) → IsSync (Shared.the_row a)
shared_sync a = search (
  scenario_sync,
  ring.the_sync,
  stamps.the_sync,
  inbox.the_sync,
  posted.the_send,
  posted.the_sync,
  crosses,
  sendable,
) depth 60 fits 20000

pub course_sync : (a : NamedLft) → IsSync (Course.the_row a)
course_sync a = search (scenario_sync, crosses, sendable) depth 60 fits 20000
