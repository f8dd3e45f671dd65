-- What a master gives of a request or a number that is wanted, whoever asked for it. (That a gift holds whole
-- certificates is this project's own.)
use Rattle.std.specs.Prelude.{ℕ, List, [], Option, Some, None}
use Rattle.std.specs.List.{filter_map}
use Rattle.std.specs.Option.{option_map, option_to_list, option_and_then}
use Rattle.message_types.specs.declared.signed.Signed.{Signed}
use Rattle.message_types.specs.declared.preordering.PoAck.{PoAck}
use Rattle.message_types.specs.declared.preordering.PoRequest.{PoRequest}
use Rattle.message_types.specs.declared.updates.Update.{Update}
use Rattle.message_types.specs.declared.reconciling.Give.{Give}
use Rattle.message_types.specs.declared.body.Body.{Body}
use Rattle.message_types.specs.declared.body.Body.TheVariants as body
use Rattle.message_types.specs.Digests.{digest_of_update}
use Rattle.protocol_rules.specs.declared.facts.OrderFact.{OrderFact}
use Rattle.protocol_rules.specs.Words.{first_of_list}
use Rattle.protocol_rules.specs.Group.{Group}
use Rattle.protocol_rules.specs.Preorder.{certified}
use Rattle.protocol_rules.specs.Order.{ordered}
use Rattle.protocol_rules.specs.Execution.{Request}
use Rattle.protocol_rules.specs.Reconcile.{request_of, quorum_of_acks, whole_order}
use Rattle.reconcile.specs.declared.wanted.Wanted.{Wanted}
use Rattle.reconcile.specs.declared.wanted.Wanted.TheVariants as wanted

abbrev pub give_with : List (Signed PoAck) → Signed PoRequest → Give
give_with acks request = record { request = request; acks = acks }

-- the gift of (j, k) with this update: the first known request of it, and a quorum's acknowledgements
abbrev pub gift_of : Group → List (Signed Body) → ℕ → ℕ → Update → Option Give
gift_of g known j k u = option_map (give_with (quorum_of_acks g known j k (digest_of_update u)))
    (first_of_list (filter_map (request_of j k u) known))

-- what is given of (j, k): the gift of its certified update
abbrev pub give_of : Group → List (Signed Body) → ℕ → ℕ → List Body
give_of g known j k = option_to_list
    (option_map (λ gift. body.Give gift) (option_and_then (gift_of g known j k) (certified g known j k)))

-- what is given of number s: the gift of its ordered rows
abbrev pub order_given : Group → List OrderFact → ℕ → List Body
order_given g facts s = option_to_list
    (option_map (λ rows. body.GiveOrdered (whole_order g facts s rows)) (ordered g facts s))

-- the requests in a list of what is wanted, and the numbers in it
abbrev pub request_in : Wanted → Option Request
request_in (wanted.Request j k) = Some record { j = j; k = k }
request_in (wanted.Number s) = None

abbrev pub number_in : Wanted → Option ℕ
number_in (wanted.Request j k) = None
number_in (wanted.Number s) = Some s

abbrev pub requests_in : List Wanted → List Request
requests_in list = filter_map request_in list

abbrev pub numbers_in : List Wanted → List ℕ
numbers_in list = filter_map number_in list

-- what is given of one thing that is wanted, where it is a request
abbrev pub given_of : Group → List (Signed Body) → Wanted → List Body
given_of g known (wanted.Request j k) = give_of g known j k
given_of g known (wanted.Number s) = []
