-- Rules that stay alive, pre-ordering: doors go by what is executed, and requests are acknowledged in turn, so that an update
-- introduced again and again costs one acknowledgement and one number. (This project's own.)
use Rattle.std.specs.Prelude.{ℕ, ◌+◌, ◌-◌, ◌%◌, Bool, false, ◌&&◌, List, [], ◌∷◌, ◌++◌, Option, Some, None, map, max, filter}
use Rattle.std.specs.Prelude.{nat_eq, nat_lt, if◌then◌else◌, is_some}
use Rattle.std.specs.List.{list_all, find, filter_map, flat_map}
use Rattle.std.specs.Option.{option_to_list}
use Rattle.message_types.specs.declared.signed.Signed.{Signed}
use Rattle.message_types.specs.declared.updates.Update.{Update}
use Rattle.message_types.specs.declared.body.Body.{Body}
use Rattle.message_types.specs.declared.body.Body.TheVariants as body
use Rattle.quorum_sets.specs.Masters.{numbers_below}
use Rattle.protocol_rules.specs.Words.{first_of_list, greatest_of, numbers_from}
use Rattle.protocol_rules.specs.Group.{Group, most_number, is_door}
use Rattle.protocol_rules.specs.Preorder.{updates_requested, vector, requests_said, update_of, acks, ack_due}
use Rattle.protocol_rules.specs.Execution.{updates_of}
use Rattle.protocol_rules.specs.declared.limits.TheConstants.{SLOW_BEAT}

-- the first update requested as (j, k)
abbrev pub first_requested : List (Signed Body) → ℕ → ℕ → Option Update
first_requested known j k = first_of_list (updates_requested known j k)

-- the number of the client's update that was requested first as (j, k), where it is the client's
abbrev pub number_for : List (Signed Body) → ℕ → ℕ → ℕ → Option ℕ
number_for known c j k = elim (first_requested known j k) [
  | None ↦ None
  | Some u ↦ if nat_eq u.client c then Some u.t else None
]

-- Request (j, k) has its turn: requests (j, 1) to (j, k) are known, its client is one of the group's, j is a door of it,
-- and its update's number is above those of this client's updates before it.
abbrev pub has_turn : Group → List (Signed Body) → ℕ → ℕ → Bool
has_turn g known j k = elim (first_requested known j k) [
  | None ↦ false
  | Some u ↦ nat_lt u.client g.clients && is_door g u.client j
      && list_all (λ i. is_some (first_requested known j i)) (numbers_from 1 (k - 1))
      && nat_lt (greatest_of (filter_map (number_for known u.client j) (numbers_from 1 (k - 1)))) u.t
]

-- all acknowledgements due, by j and then k
abbrev pub acks_in_turn_due : Group → List (Signed Body) → List Body → List Body
acks_in_turn_due g known said =
    flat_map (λ j. flat_map (λ k. if has_turn g known j k then ack_due known said j k else [])
    (numbers_from 1 most_number)) (numbers_below g.n)

-- the greatest number of the requests said, and of the updates introduced for the client
abbrev pub last_request : List Body → ℕ
last_request said = greatest_of (map (λ b. b.k) (requests_said said))

abbrev pub last_introduced : List Body → ℕ → ℕ
last_introduced said c =
    greatest_of (map (λ b. b.update.body.t) (filter (λ b. nat_eq b.update.body.client c) (requests_said said)))

-- A door's next request for a client: of the update after all that it introduced and all that are executed, once that was
-- taken as a frame of its own.
abbrev pub next_in_turn : Group → ℕ → List (Signed Body) → List Update → List Body → ℕ → List Body
next_in_turn g me taken executed said c =
    if is_door g c me && nat_lt (last_request said) most_number
    then (elim (first_of_list (filter_map (update_of c (max (last_introduced said c) (updates_of c executed) + 1)) taken)) [
      | Some u ↦ body.PoRequest record { k = last_request said + 1; update = u } ∷ []
      | None ↦ []
    ])
    else []

-- the requests due: one for each client at most, clients in number order, each counted as said for the next
abbrev pub requests_in_turn_due : Group → ℕ → List (Signed Body) → List Update → List Body → List ℕ → List Body
requests_in_turn_due g me taken executed said [] = []
requests_in_turn_due g me taken executed said (c ∷ clients) =
    next_in_turn g me taken executed said c
    ++ requests_in_turn_due g me taken executed (said ++ next_in_turn g me taken executed said c) clients

-- the ticks at which what isn't certified, or isn't ordered, is said again
abbrev pub is_slow_beat : ℕ → Bool
is_slow_beat now = nat_eq (now % SLOW_BEAT) 0

-- the request of this number
abbrev pub requests_number : ℕ → Body → Bool
requests_number k word = elim word [ body.PoRequest b ↦ nat_eq b.k k | _ ↦ false ]

-- What was said of the first request of each master that isn't certified: it may have been lost on the way to masters that
-- were away.
abbrev pub request_again_due : Group → ℕ → List (Signed Body) → List Body → ℕ → Bool → List Body
request_again_due g me known said now at_tick =
    if at_tick && is_slow_beat now then option_to_list (find (requests_number (vector g known me + 1)) said) else []

abbrev pub acks_again_due : Group → List (Signed Body) → List Body → ℕ → Bool → List Body
acks_again_due g known said now at_tick =
    if at_tick && is_slow_beat now
    then flat_map (λ j. option_to_list (find (acks j (vector g known j + 1)) said)) (numbers_below g.n)
    else []
