use denote.Param.Send.{sendable}
use Rattle.replica_threads.proofs.ActorsCross.{lock_send, lock_sync}
use Rattle.replica_threads.proofs.crossing.lock_may_cross.Goals as goal

pub moves-requires-send-T : goal.moves-requires-send-T
moves-requires-send-T g c κs within = search (lock_send, sendable)

pub lends-requires-sync-T : goal.lends-requires-sync-T
lends-requires-sync-T g c κs within = search (lock_sync, sendable)
