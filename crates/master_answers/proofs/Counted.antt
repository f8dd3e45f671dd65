-- How many updates of each client are executed.
use Rattle.std.proofs.Common.{◌≡◌, ℕ, ◌≤◌, ◌<◌, List, slice_index, arith}
use Rattle.message_types.specs.declared.signed.Signed.{Signed}
use Rattle.message_types.specs.declared.body.Body.{Body}
use Rattle.quorum_sets.specs.declared.limits.TheConstants.{MOST_CLIENTS}
use Rattle.protocol_rules.specs.Group.{Group}
use Rattle.protocol_rules.specs.Facts.{facts_of}
use Rattle.protocol_rules.specs.Order.{ordered_run}
use Rattle.protocol_rules.specs.Execution.{executed_of, updates_of}
use Rattle.protocol_rules.specs.Master.{certified_requests, executed}
use Rattle.preorder.specs.Counted.{AreCounts}

pub counts_are : (g : Group) (known : List (Signed Body)) (clients : ℕ) (counts : List ℕ) → clients ≤ MOST_CLIENTS →
    ((c : ℕ) → c < MOST_CLIENTS → slice_index counts c ≡ updates_of c
    (executed_of g (certified_requests g known) (ordered_run g (facts_of g known))))
    → AreCounts clients counts (executed g known)
unfolding executed
counts_are g known clients counts few are c less = are c (omega arith)
