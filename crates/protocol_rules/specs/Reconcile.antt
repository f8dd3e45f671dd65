-- Reconciliation: what a master lacks and asks for, and what it gives to another that asked. (After Prime's
-- reconciliation; asking by name, once, at a tick, and giving whole certificates are this project's own.)
use Rattle.std.specs.Prelude.{ℕ, Bool, false, ◌&&◌, not, List, [], ◌∷◌, Option, Some, None, filter, take, nat_eq}
use Rattle.std.specs.Prelude.{if◌then◌else◌}
use Rattle.std.specs.List.{list_any, filter_map, flat_map}
use Rattle.std.specs.Option.{option_map}
use Rattle.std.specs.Str.{bytes_eq}
use Rattle.message_types.specs.declared.signed.Signed.{Signed}
use Rattle.message_types.specs.declared.preordering.PoAck.{PoAck}
use Rattle.message_types.specs.declared.preordering.PoRequest.{PoRequest}
use Rattle.message_types.specs.declared.updates.Update.{Update}
use Rattle.message_types.specs.declared.reconciling.GiveOrdered.{GiveOrdered}
use Rattle.message_types.specs.declared.body.Body.{Body}
use Rattle.message_types.specs.declared.body.Body.TheVariants as body
use Rattle.message_types.specs.Digests.{digest_of_update, digest_of_rows}
use Rattle.message_types.specs.Texts.{update_text}
use Rattle.quorum_sets.specs.Masters.{numbers_below}
use Rattle.protocol_rules.specs.declared.facts.OrderFact.{OrderFact}
use Rattle.protocol_rules.specs.Words.{first_of_list, greatest_of, numbers_from}
use Rattle.protocol_rules.specs.Group.{Group, most_number}
use Rattle.protocol_rules.specs.Preorder.{certified, is_ack}
use Rattle.protocol_rules.specs.Order.{ordered, is_voted, commit_by, commit_views, quorum_of}
use Rattle.protocol_rules.specs.Execution.{Request}

-- what was said already
abbrev pub updates_asked : ℕ → ℕ → Body → Bool
updates_asked j k word = elim word [ body.AskUpdate b ↦ nat_eq b.j j && nat_eq b.k k | _ ↦ false ]

abbrev pub orders_asked : ℕ → Body → Bool
orders_asked s word = elim word [ body.AskOrder b ↦ nat_eq b.s s | _ ↦ false ]

abbrev pub updates_given : ℕ → ℕ → Body → Bool
updates_given j k word = elim word [ body.Give b ↦ nat_eq b.request.signer j && nat_eq b.request.body.k k | _ ↦ false ]

abbrev pub orders_given : ℕ → Body → Bool
orders_given s word = elim word [ body.GiveOrdered b ↦ nat_eq b.s s | _ ↦ false ]

-- at a tick, once: the request whose certificate the order waits for
abbrev pub ask_update_due : List Body → Bool → Option Request → List Body
ask_update_due said at_tick None = []
ask_update_due said at_tick (Some r) =
    if at_tick && not (list_any (updates_asked r.j r.k) said) then body.AskUpdate record { j = r.j; k = r.k }
    ∷ [] else []

-- at a tick, once: the least number not ordered, where a greater one is
abbrev pub ask_order_due : List Body → Bool → Option ℕ → List Body
ask_order_due said at_tick None = []
ask_order_due said at_tick (Some s) =
    if at_tick && not (list_any (orders_asked s) said) then body.AskOrder record { s = s } ∷ [] else []

-- another master asked for (j, k), or for number s
abbrev pub asks_for_update : ℕ → ℕ → ℕ → Signed Body → Bool
asks_for_update me j k f = not (nat_eq f.signer me) && updates_asked j k f.body

abbrev pub asks_for_order : ℕ → ℕ → Signed Body → Bool
asks_for_order me s f = not (nat_eq f.signer me) && orders_asked s f.body

-- the frame is request (j, k) of this update
abbrev pub request_of : ℕ → ℕ → Update → Signed Body → Option (Signed PoRequest)
request_of j k u f = elim f.body [
  | body.PoRequest b ↦
      if nat_eq f.signer j && nat_eq b.k k && bytes_eq (update_text b.update.body) (update_text u)
      then Some record { signer = f.signer; body = b; sig = f.sig } else None
  | _ ↦ None
]

-- the frame is the master's acknowledgement of (j, k) with this digest
abbrev pub ack_of : ℕ → ℕ → List ℕ → ℕ → Signed Body → Option (Signed PoAck)
ack_of j k digest master f = elim f.body [
  | body.PoAck b ↦ if is_ack j k digest master f then Some record { signer = f.signer; body = b; sig = f.sig } else None
  | _ ↦ None
]

-- the first acknowledgement of each of the q lowest masters
abbrev pub quorum_of_acks : Group → List (Signed Body) → ℕ → ℕ → List ℕ → List (Signed PoAck)
quorum_of_acks g known j k digest =
    take g.q (filter_map (λ master. first_of_list (filter_map (ack_of j k digest master) known)) (numbers_below g.n))

-- the gift of request (j, k), where it is certified: the first known request with its update, and a quorum's
-- acknowledgements
abbrev pub request_gift : Group → List (Signed Body) → ℕ → ℕ → List Body
request_gift g known j k = elim (certified g known j k) [
  | Some u ↦ (elim (first_of_list (filter_map (request_of j k u) known)) [
    | Some request ↦ body.Give record {
      request = request;
      acks =
          quorum_of_acks g known j k (digest_of_update u);
    } ∷ []
    | None ↦ []
  ])
  | None ↦ []
]

-- a certified request that another master asked for
abbrev pub give_due : Group → ℕ → List (Signed Body) → List Body → ℕ → ℕ → List Body
give_due g me known said j k =
    if list_any (asks_for_update me j k) known && not (list_any (updates_given j k) said)
    then request_gift g known j k else []

abbrev pub gives_due : Group → ℕ → List (Signed Body) → List Body → List Body
gives_due g me known said = flat_map (λ j. flat_map (give_due g me known said j) (numbers_from 1 most_number))
    (numbers_below g.n)

-- the views in which a quorum committed s with this digest
abbrev pub committed_views : Group → List OrderFact → ℕ → List ℕ → List ℕ
committed_views g facts s digest = filter (λ v. is_voted g (commit_by v s digest) facts) (commit_views facts s digest)

-- the greatest view in which a quorum committed s with this digest, 0 where there is none
abbrev pub last_view : Group → List OrderFact → ℕ → List ℕ → ℕ
last_view g facts s digest = greatest_of (committed_views g facts s digest)

-- the rows as number s, with the commits of a quorum in the greatest view in which one committed them
abbrev pub whole_order : Group → List OrderFact → ℕ → List (List ℕ) → GiveOrdered
whole_order g facts s rows = record {
  s = s;
  v = last_view g facts s (digest_of_rows rows);
  rows = rows;
  commits = quorum_of g (commit_by (last_view g facts s (digest_of_rows rows)) s (digest_of_rows rows)) facts;
}

-- the whole order of number s, where it is ordered
abbrev pub given_order : Group → List OrderFact → ℕ → Option GiveOrdered
given_order g facts s = option_map (whole_order g facts s) (ordered g facts s)

-- the gift of number s, where it is ordered
abbrev pub order_gift : Group → List OrderFact → ℕ → List Body
order_gift g facts s = elim (ordered g facts s) [
  | Some rows ↦ body.GiveOrdered (whole_order g facts s rows) ∷ []
  | None ↦ []
]

-- an ordered number that another master asked for
abbrev pub give_ordered_due : Group → ℕ → List (Signed Body) → List OrderFact → List Body → ℕ → List Body
give_ordered_due g me known facts said s =
    if list_any (asks_for_order me s) known && not (list_any (orders_given s) said)
    then order_gift g facts s else []

abbrev pub gives_ordered_due : Group → ℕ → List (Signed Body) → List OrderFact → List Body → List Body
gives_ordered_due g me known facts said = flat_map (give_ordered_due g me known facts said) (numbers_from 1 most_number)
