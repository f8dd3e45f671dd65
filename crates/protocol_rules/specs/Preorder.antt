-- Pre-ordering, after Prime: a door introduces each update of its client in turn, every master acknowledges the first
-- request that it knows for a number, and q acknowledgements certify it. (That the originator's own acknowledgement
-- counts like any other, and that q are needed, is this project's own.) All over a list of signed words in the
-- order in which they became known.
use Rattle.std.specs.Prelude.{ℕ, ◌+◌, Bool, false, ◌&&◌, List, [], ◌∷◌, ◌++◌, Option, Some, None, length, filter}
use Rattle.std.specs.Prelude.{nat_eq, nat_lt, if◌then◌else◌}
use Rattle.std.specs.List.{list_any, find, filter_map, flat_map}
use Rattle.std.specs.Str.{bytes_eq}
use Rattle.message_types.specs.declared.signed.Signed.{Signed}
use Rattle.message_types.specs.declared.updates.Update.{Update}
use Rattle.message_types.specs.declared.preordering.PoRequest.{PoRequest}
use Rattle.message_types.specs.declared.body.Body.{Body}
use Rattle.message_types.specs.declared.body.Body.TheVariants as body
use Rattle.message_types.specs.Digests.{digest_of_update}
use Rattle.quorum_sets.specs.Masters.{numbers_below}
use Rattle.quorum_sets.specs.Quorum.{has_quorum}
use Rattle.protocol_rules.specs.Words.{first_met, run_from, numbers_from, first_of_list}
use Rattle.protocol_rules.specs.Group.{Group, most_number, is_door}

-- the update of a frame that is request k of master j
abbrev pub update_requested : ℕ → ℕ → Signed Body → Option Update
update_requested j k f = elim f.body [
  | body.PoRequest b ↦ if nat_eq f.signer j && nat_eq b.k k then Some b.update.body else None
  | _ ↦ None
]

-- the updates of all known requests k of master j, first known first
abbrev pub updates_requested : List (Signed Body) → ℕ → ℕ → List Update
updates_requested known j k = filter_map (update_requested j k) known

-- the frame is the master's acknowledgement of (j, k) with this digest
abbrev pub is_ack : ℕ → ℕ → List ℕ → ℕ → Signed Body → Bool
is_ack j k digest master f = elim f.body [
  | body.PoAck b ↦ nat_eq f.signer master && nat_eq b.j j && nat_eq b.k k && bytes_eq b.digest digest
  | _ ↦ false
]

-- q masters acknowledged (j, k) with this digest
abbrev pub is_acked : Group → List (Signed Body) → ℕ → ℕ → List ℕ → Bool
is_acked g known j k digest = has_quorum g.n g.q (λ master. list_any (is_ack j k digest master) known)

-- the update that is certified as (j, k): of those requested as (j, k), the first that came to have a quorum
unfoldable pub certified : Group → List (Signed Body) → ℕ → ℕ → Option Update
certified g known j k = first_met (λ beginning. find (λ u. is_acked g beginning j k (digest_of_update u))
    (updates_requested beginning j k)) [] known

-- how far the requests of master j are certified without a gap
unfoldable pub vector : Group → List (Signed Body) → ℕ → ℕ
vector g known j = length (run_from (λ k. certified g known j k) 1 most_number)

-- the requests among the words said
abbrev pub request_in : Body → Option PoRequest
request_in word = elim word [ body.PoRequest b ↦ Some b | _ ↦ None ]

abbrev pub requests_said : List Body → List PoRequest
requests_said said = filter_map request_in said

-- how many requests were said for the client
abbrev pub requests_said_for : ℕ → List Body → ℕ
requests_said_for c said = length (filter (λ b. nat_eq b.update.body.client c) (requests_said said))

-- the frame is update t of client c
abbrev pub update_of : ℕ → ℕ → Signed Body → Option (Signed Update)
update_of c t f = elim f.body [
  | body.Update b ↦ if nat_eq b.client c && nat_eq b.t t then Some record {
    signer = f.signer;
    body = b;
    sig = f.sig;
  } else None
  | _ ↦ None
]

-- A door's next request for a client: of the update whose t is one more than the requests said for the client, once
-- that update was taken as a frame of its own; its number is one more than the requests said.
abbrev pub next_request : Group → ℕ → List (Signed Body) → List Body → ℕ → List Body
next_request g me taken said c =
    if is_door g c me && nat_lt (length (requests_said said)) most_number
    then (elim (first_of_list (filter_map (update_of c (requests_said_for c said + 1)) taken)) [
      | Some u ↦ body.PoRequest record { k = length (requests_said said) + 1; update = u } ∷ []
      | None ↦ []
    ])
    else []

-- the requests due: one for each client at most, clients in number order, each counted as said for the next
abbrev pub requests_due : Group → ℕ → List (Signed Body) → List Body → List ℕ → List Body
requests_due g me taken said [] = []
requests_due g me taken said (c ∷ clients) =
    next_request g me taken said c ++ requests_due g me taken (said ++ next_request g me taken said c) clients

-- the word is an acknowledgement of (j, k)
abbrev pub acks : ℕ → ℕ → Body → Bool
acks j k word = elim word [ body.PoAck b ↦ nat_eq b.j j && nat_eq b.k k | _ ↦ false ]

-- the acknowledgement due for (j, k): none was said, and its digest is that of the first known request
abbrev pub ack_due : List (Signed Body) → List Body → ℕ → ℕ → List Body
ack_due known said j k =
    if list_any (acks j k) said
    then []
    else (elim (updates_requested known j k)
    [ [] ↦ [] | u ∷ _ ↦ body.PoAck record { j = j; k = k; digest = digest_of_update u } ∷ [] ])

-- all acknowledgements due, by j and then k
abbrev pub acks_due : Group → List (Signed Body) → List Body → List Body
acks_due g known said = flat_map (λ j. flat_map (λ k. ack_due known said j k) (numbers_from 1 most_number))
    (numbers_below g.n)
