-- What a master says again by the rules that stay alive, told from what it holds: its own requests, and its
-- acknowledgements of first requests. (How it is kept is this project's own.)
use Rattle.std.specs.Prelude.{◌≡◌, ℕ, ◌+◌, true, List, Option, Some, None, IsSome, length, slice_get}
use Rattle.std.specs.List.{list_any, find}
use Rattle.message_types.specs.declared.signed.Signed.{Signed}
use Rattle.message_types.specs.declared.updates.Update.{Update}
use Rattle.message_types.specs.declared.body.Body.{Body}
use Rattle.message_types.specs.declared.body.Body.TheVariants as body
use Rattle.message_types.specs.Digests.{digest_of_update}
use Rattle.protocol_rules.specs.Preorder.{acks}
use Rattle.protocol_rules.specs.Turns.{first_requested, last_request, requests_number}
use Rattle.preorder.specs.Index.{PairMap, at_pair}

-- request k of this update
abbrev pub request_with : ℕ → Option (Signed Update) → Option Body
request_with k None = None
request_with k (Some u) = Some (body.PoRequest record { k = k; update = u })

-- request k of the update that is held for this client and number
abbrev pub request_held : PairMap (Signed Update) → ℕ → Option (ℕ × ℕ) → Option Body
request_held map k None = None
request_held map k (Some key) = request_with k (at_pair map key)

-- `own` has the client and the number of the update of each request said, from request 1 on, and the update is held
pub record AreOwn (said : List Body) (map : PairMap (Signed Update)) (own : List (ℕ × ℕ)) : Type 0 where
  pub count : length own ≡ last_request said
  pub held : (i : ℕ) (key : ℕ × ℕ) → slice_get own i ≡ Some key → IsSome (at_pair map key)
  pub each : (i : ℕ) → find (requests_number (i + 1)) said ≡ request_held map (i + 1) (slice_get own i)

-- the acknowledgement of (j, k) with the digest of this update
abbrev pub ack_of : ℕ → ℕ → Option Update → Option Body
ack_of j k None = None
ack_of j k (Some u) = Some (body.PoAck record { j = j; k = k; digest = digest_of_update u })

-- what was acknowledged is the first request
abbrev pub AcknowledgesFirsts : List (Signed Body) → List Body → Type 0
AcknowledgesFirsts known said = (j k : ℕ) → list_any (acks j k) said ≡ true →
    find (acks j k) said ≡ ack_of j k (first_requested known j k)
