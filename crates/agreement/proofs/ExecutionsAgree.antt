-- Executions: those of correct masters agree.
use Rattle.std.proofs.Common.{◌≡◌, ℕ, List, Some}
use Rattle.plain_lists.specs.Lists.{IsIn}
use Rattle.message_types.specs.declared.signed.Signed.{Signed}
use Rattle.message_types.specs.declared.updates.Update.{Update}
use Rattle.message_types.specs.declared.body.Body.{Body}
use Rattle.message_types.specs.declared.body.Body.TheVariants as body
use Rattle.protocol_rules.specs.Group.{Group, most_number}
use Rattle.protocol_rules.specs.Facts.{facts_of}
use Rattle.protocol_rules.specs.Order.{ordered, ordered_run}
use Rattle.protocol_rules.specs.Execution.{Request}
use Rattle.protocol_rules.specs.Master.{executed, certified_requests}
use Rattle.agreement.specs.Laws.{known_by, CertifiedAgree, CommittedStays, OrderedAgree, ExecutionsAgree}
use Rattle.agreement.specs.Laws.{NoneExecutedTwice}
use Rattle.agreement.proofs.RequestsAgree.{known_in, certified_same}
use Rattle.agreement.proofs.ExecutedInTurn.{Agree, executed_in, executed_agree, runs_agree, none_twice}
use Rattle.agreement.proofs.CommittedStays.{prepared_alike}
use Rattle.agreement.proofs.OrdersAgree.{ordered_same}
use Rattle.agreement.proofs.QuorumsAreBacked.{quorum_backed}

pub certified_agree : CertifiedAgree
certified_agree w history first second i j sound begins_first begins_second right_i right_j x k a b one other =
    certified_same w history sound i j right_i right_j (known_by w first i) (known_by w second j)
    (known_in w history first i begins_first) (known_in w history second j begins_second) x k a b one other

pub ordered_agree : OrderedAgree
ordered_agree w history first second i j sound begins_first begins_second right_i right_j s a b one other =
    ordered_same w history sound i j right_i right_j (known_by w first i) (known_by w second j)
    (known_in w history first i begins_first) (known_in w history second j begins_second) s a b one other

pub committed_stays : CommittedStays
committed_stays w history sound v u s a b le commits prepares = prepared_alike w history sound v s a
    (quorum_backed w history sound (body.Commit record { v = v; s = s; digest = a }) commits)
    u b le (quorum_backed w history sound (body.Prepare record { v = u; s = s; digest = b }) prepares)

executed_known : (g : Group) (known more : List (Signed Body)) →
    ((r : Request) (a b : Update) → certified_requests g known r ≡ Some a →
    certified_requests g more r ≡ Some b → a ≡ b)
    → ((s : ℕ) (a b : List (List ℕ)) → ordered g (facts_of g known) s ≡ Some a →
    ordered g (facts_of g more) s ≡ Some b → a ≡ b) → Agree (executed g known) (executed g more)
unfolding executed ordered_run
executed_known g known more requests rows = executed_agree g (certified_requests g known) (certified_requests g more)
    requests (ordered_run g (facts_of g known)) (ordered_run g (facts_of g more))
    (runs_agree (ordered g (facts_of g known)) (ordered g (facts_of g more)) rows 1 most_number)

pub executions_agree : ExecutionsAgree
executions_agree w history first second i j sound begins_first begins_second right_i right_j =
    executed_known w.group (known_by w first i) (known_by w second j)
    (λ r a b one other. certified_agree w history first second i j sound begins_first begins_second right_i
    right_j r.j r.k a b one other)
    (λ s a b one other. ordered_agree w history first second i j sound begins_first begins_second
    right_i right_j s a b one other)

pub executed_from : (g : Group) (known : List (Signed Body)) (u : Update) → IsIn u (executed g known) →
    (r : Request) × (certified_requests g known r ≡ Some u)
unfolding executed
executed_from g known u h = executed_in g (certified_requests g known) (ordered_run g (facts_of g known)) u h

pub none_executed_twice : NoneExecutedTwice
unfolding executed
none_executed_twice w history i first between last u v e same_client same_t =
    none_twice w.group (certified_requests w.group (known_by w history i))
    (ordered_run w.group (facts_of w.group (known_by w history i))) first between last u v e same_client same_t
