-- What a master keeps in order to give, and when it is what these words make of it.
use Rattle.std.specs.Prelude.{◌≡◌, ℕ, ◌&&◌, List, Option, Some, None, nat_eq, if◌then◌else◌, [], ◌∷◌}
use Rattle.std.specs.List.{filter_map}
use Rattle.std.specs.Map.{lookup}
use Rattle.std.specs.Option.{option_map}
use Rattle.std.specs.Str.{bytes_eq}
use Rattle.message_types.specs.declared.signed.Signed.{Signed}
use Rattle.message_types.specs.declared.preordering.PoAck.{PoAck}
use Rattle.message_types.specs.declared.preordering.PoRequest.{PoRequest}
use Rattle.message_types.specs.declared.body.Body.{Body}
use Rattle.message_types.specs.declared.body.Body.TheVariants as body
use Rattle.message_types.specs.Digests.{digest_of_update}
use Rattle.protocol_rules.specs.Words.{first_of_list}
use Rattle.protocol_rules.specs.Parts as part
use Rattle.protocol_rules.specs.Group.{Group}
use Rattle.protocol_rules.specs.Reconcile.{ack_of}
use Rattle.preorder.specs.Index.{same_ballot}
use Rattle.protocol_rules.specs.Keys.{Vote, same_vote}

-- a request's master, its number and the digest of its update
abbrev pub Ballot : Type 0
Ballot = ℕ × ℕ × List ℕ

-- the sizes of the group, the requests and the signatures of the acknowledgements
pub record GiftState : Type 0 where
  pub masters : ℕ
  pub quorum : ℕ
  pub requests : List (Ballot × Signed PoRequest)
  pub acks : List (Vote × List ℕ)

abbrev pub request_at : GiftState → Ballot → Option (Signed PoRequest)
request_at kept at = lookup (same_ballot at) kept.requests

-- the frame is request (j, k) of an update with this digest
abbrev pub request_with : ℕ → ℕ → List ℕ → Signed Body → Option (Signed PoRequest)
request_with j k digest f = elim f.body [
  | body.PoRequest b ↦
      if nat_eq f.signer j && nat_eq b.k k && bytes_eq (digest_of_update b.update.body) digest
      then Some record { signer = f.signer; body = b; sig = f.sig } else None
  | _ ↦ None
]

-- the master's acknowledgement of (j, k) with this digest and this signature
abbrev pub signed_ack : ℕ → ℕ → List ℕ → ℕ → List ℕ → Signed PoAck
signed_ack j k digest master sig =
    record { signer = master; body = record { j = j; k = k; digest = digest }; sig = sig }

-- the master's acknowledgement of (j, k) with this digest among those kept
abbrev pub ack_among : List (Vote × List ℕ) → ℕ → ℕ → List ℕ → ℕ → Option (Signed PoAck)
ack_among acks j k digest master =
    option_map (signed_ack j k digest master) (lookup (same_vote (j, k, digest, master)) acks)

-- What a master of the group keeps where these words are known: of each number and digest the first request, and of
-- each master the first acknowledgement.
pub record AreGiftsOf (g : Group) (kept : GiftState) (known : List (Signed Body)) : Type 0 where
  pub masters : kept.masters ≡ g.n
  pub quorum : kept.quorum ≡ g.q
  pub requests : (j k : ℕ) (digest : List ℕ) →
      request_at kept (j, k, digest) ≡ first_of_list (filter_map (request_with j k digest) known)
  pub acks : (j k : ℕ) (digest : List ℕ) (master : ℕ) →
      ack_among kept.acks j k digest master ≡ first_of_list (filter_map (ack_of j k digest master) known)

-- The gifts learn a word: whatever was known, they are the gifts where this is known too.
abbrev pub Learns : GiftState → GiftState → Signed Body → Type 0
Learns old new f = (g : Group) → part.Grows (AreGiftsOf g old) (AreGiftsOf g new) (f ∷ [])

-- what holds of all that may be known where these are the gifts
abbrev pub Where : GiftState → (Group → List (Signed Body) → Type 0) → Type 0
Where kept Holds = (g : Group) (known : List (Signed Body)) → AreGiftsOf g kept known → Holds g known
