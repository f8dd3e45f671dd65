-- After each client the bodies end with the requests due of the clients so far, and these count as said.
use Rattle.std.proofs.Common.{◌≡◌, ◌++◌, List}
use Rattle.message_types.specs.declared.signed.Signed.{Signed}
use Rattle.message_types.specs.declared.updates.Update.{Update}
use Rattle.message_types.specs.declared.body.Body.{Body}
use Rattle.protocol_rules.specs.Group.{group_of}
use Rattle.protocol_rules.specs.Words.{numbers_from}
use Rattle.protocol_rules.specs.Turns.{requests_in_turn_due}
use Rattle.preorder.specs.Index.{HasUpdates, HasNumbers}
use Rattle.preorder.specs.Counted.{IsIntroduced, AreCounts}
use Rattle.preorder.proofs.introducing.push_requests_in_turn.Given as goal

-- the requests of the clients so far are there and counted
abbrev pub invariant-loop-client : goal.invariant-loop-client
invariant-loop-client l = record {
  added : (taken : List (Signed Body)) (done : List Update) (said : List Body) → HasUpdates taken l.updates.entries →
      HasNumbers l.updates.entries → AreCounts l.clients l.executed done → IsIntroduced said l.initial.introduced →
      l.bodies.items ≡ l.initial.bodies.items
      ++ requests_in_turn_due (group_of l.sizes l.clients) l.me taken done said (numbers_from 0 l.client);
  counted : (taken : List (Signed Body)) (done : List Update) (said : List Body) → HasUpdates taken l.updates.entries →
      HasNumbers l.updates.entries → AreCounts l.clients l.executed done → IsIntroduced said l.initial.introduced →
      IsIntroduced (said ++ requests_in_turn_due (group_of l.sizes l.clients) l.me taken done said
      (numbers_from 0 l.client)) l.introduced;
}
