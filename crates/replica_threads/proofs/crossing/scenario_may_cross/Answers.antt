use denote.Param.Send.{sendable}
use Rattle.replica_threads.proofs.ActorsCross.{scenario_send, scenario_sync}
use Rattle.replica_threads.proofs.crossing.scenario_may_cross.Goals as goal

pub moves-requires-send-T : goal.moves-requires-send-T
moves-requires-send-T c κs = search (scenario_send, sendable)

pub lends-requires-sync-T : goal.lends-requires-sync-T
lends-requires-sync-T c κs = search (scenario_sync, sendable)
