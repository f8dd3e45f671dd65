use denote.Param.Send.{sendable}
use Rattle.replica_threads.proofs.ActorsCross.{bench_send, bench_sync}
use Rattle.replica_threads.proofs.crossing.bench_may_cross.Goals as goal

pub moves-requires-send-T : goal.moves-requires-send-T
moves-requires-send-T c κs = search (bench_send, sendable)

pub lends-requires-sync-T : goal.lends-requires-sync-T
lends-requires-sync-T c κs = search (bench_sync, sendable)
