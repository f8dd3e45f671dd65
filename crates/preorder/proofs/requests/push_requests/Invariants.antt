-- After each client the bodies end with the requests due of the clients so far, and the counts count them as said.
use Rattle.std.proofs.Common.{◌≡◌, ◌++◌, List}
use Rattle.message_types.specs.declared.signed.Signed.{Signed}
use Rattle.message_types.specs.declared.body.Body.{Body}
use Rattle.protocol_rules.specs.Group.{group_of}
use Rattle.protocol_rules.specs.Words.{numbers_from}
use Rattle.protocol_rules.specs.Preorder.{requests_due}
use Rattle.preorder.specs.Index.{HasUpdates}
use Rattle.preorder.specs.Counted.{IsCounted}
use Rattle.preorder.proofs.requests.push_requests.Given as goal

-- the requests of the clients so far are there and counted
abbrev pub invariant-loop-client : goal.invariant-loop-client
invariant-loop-client l = record {
  added : (taken : List (Signed Body)) (said : List Body) → HasUpdates taken l.updates.entries →
      IsCounted said l.initial.counts →
      l.bodies.items ≡ l.initial.bodies.items ++ requests_due (group_of l.sizes l.clients) l.me taken said
      (numbers_from 0 l.client);
  counted : (taken : List (Signed Body)) (said : List Body) → HasUpdates taken l.updates.entries →
      IsCounted said l.initial.counts →
      IsCounted (said ++ requests_due (group_of l.sizes l.clients) l.me taken said (numbers_from 0 l.client)) l.counts;
}
