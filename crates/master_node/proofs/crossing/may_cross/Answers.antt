use denote.Param.Send.{sendable}
use Rattle.master_node.proofs.Threads.{node_send, node_sync}
use Rattle.master_node.proofs.crossing.may_cross.Goals as goal

pub moves-requires-send-T : goal.moves-requires-send-T
moves-requires-send-T c κs = search (node_send, sendable)

pub lends-requires-sync-T : goal.lends-requires-sync-T
lends-requires-sync-T c κs = search (node_sync, sendable)
