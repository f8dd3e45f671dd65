-- What the certificate of one request goes by.
use Rattle.std.specs.Prelude.{ℕ, Bool, false, ◌&&◌, List, Option, nat_eq}
use Rattle.std.specs.List.{find}
use Rattle.message_types.specs.declared.signed.Signed.{Signed}
use Rattle.message_types.specs.declared.updates.Update.{Update}
use Rattle.message_types.specs.declared.body.Body.{Body}
use Rattle.message_types.specs.declared.body.Body.TheVariants as body
use Rattle.message_types.specs.Digests.{digest_of_update}
use Rattle.protocol_rules.specs.Group.{Group}
use Rattle.protocol_rules.specs.Preorder.{is_acked, updates_requested}

-- the frame is request k of master j or an acknowledgement of it
abbrev pub is_about : ℕ → ℕ → Signed Body → Bool
is_about j k f = elim f.body [
  | body.PoRequest b ↦ nat_eq f.signer j && nat_eq b.k k
  | body.PoAck b ↦ nat_eq b.j j && nat_eq b.k k
  | _ ↦ false
]

-- of the updates requested the first that a quorum acknowledged
abbrev pub first_acked : Group → ℕ → ℕ → List (Signed Body) → Option Update
first_acked g j k known = find (λ u. is_acked g known j k (digest_of_update u)) (updates_requested known j k)
