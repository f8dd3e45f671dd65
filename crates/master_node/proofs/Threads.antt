-- A master moves to other threads, and threads share one. (Rattle shows this by itself of each type that reaches no
-- type that holds itself, as the tree of a rule does.)
use denote.Param.Send.{IsSend, IsSync, sendable}
use Rattle.std.proofs.Crossing.{crosses}
use Rattle.interlocks.proofs.tree.Tree.TheLaws.TheKnot as tree
use Rattle.master_answers.proofs.replica_state.ReplicaState.TheSendSync as replica
use Rattle.master_node.specs.contracts.node.Node.{the_row}
use Rattle.message_types.proofs.body.Body.TheSendSync as body
use Rattle.message_types.proofs.signed.Signed.TheSendSync as signed
use Rattle.plain_lists.proofs.items.Items.TheSendSync as items

pub node_send : IsSend the_row
node_send = search (
  replica.the_field_send,
  items.the_send,
  signed.the_send,
  body.the_send,
  tree.crosses,
  crosses,
  sendable,
) depth 60 fits 20000

pub node_sync : IsSync the_row
node_sync = search (
  replica.the_field_sync,
  items.the_sync,
  signed.the_sync,
  body.the_sync,
  tree.crosses,
  crosses,
  sendable,
) depth 60 fits 20000
