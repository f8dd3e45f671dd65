use denote.Param.Send.{sendable}
use Rattle.replica_threads.proofs.ActorsCross.{station_send}
use Rattle.replica_threads.proofs.crossing.station_may_move.Goals as goal

pub moves-requires-send-T : goal.moves-requires-send-T
moves-requires-send-T g c κs within = search (station_send, sendable)
