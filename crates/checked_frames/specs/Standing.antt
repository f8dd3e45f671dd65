-- When a frame stands: it has a spelling, and each of its parts is of an actor that is there, signed by it, and in its
-- place. The parts are tried in their order, each by these three tests in order (this project's own).
use Rattle.std.specs.Prelude.{◌≡◌, ℕ, suc, ◌+◌, Bool, ◌&&◌, if◌then◌else◌, List, [], ◌∷◌, length, Option, Some, None}
use Rattle.std.specs.Prelude.{nat_lt, IsTrue}
use Rattle.std.specs.List.{list_all, slice_index_or}
use Rattle.plain_lists.specs.Lists.{Each}
use Rattle.message_types.specs.declared.signed.Signed.{Signed}
use Rattle.message_types.specs.declared.body.Body.{Body}
use Rattle.message_types.specs.Texts.{body_text}
use Rattle.message_types.specs.Spelling.{has_spelling}
use Rattle.message_types.specs.Parts.{parts}
use Rattle.protocol_rules.specs.Group.{Group}
use Rattle.protocol_rules.specs.Places.{in_place}
use Rattle.checked_frames.specs.declared.refusal.CheckRefusal.{CheckRefusal}
use Rattle.checked_frames.specs.declared.refusal.CheckRefusal.TheVariants as refusal
use Rattle.checked_frames.specs.Signing.{signs}

-- a group with the public keys of all its actors, the masters first
pub record Ring : Type 0 where
  pub group : Group
  pub publics : List (List ℕ)

abbrev pub ring_of : Group → List (List ℕ) → Ring
ring_of group publics = record { group = group; publics = publics }

abbrev pub actors : Group → ℕ
actors g = g.n + g.clients

abbrev pub public_of : Ring → ℕ → List ℕ
public_of ring actor = slice_index_or ring.publics actor []

-- the three tests of a part
abbrev pub is_known : Ring → Signed Body → Bool
is_known ring part = nat_lt part.signer (actors ring.group)

abbrev pub is_signed : Ring → Signed Body → Bool
is_signed ring part = signs (public_of ring part.signer) (body_text part.body) part.sig

abbrev pub part_stands : Ring → Signed Body → Bool
part_stands ring part = is_known ring part && is_signed ring part && in_place ring.group part

-- the frame stands
unfoldable pub stands : Ring → Signed Body → Bool
stands ring frame = has_spelling frame && list_all (part_stands ring) (parts frame)

-- the frame stands in some ring
pub record StandsSomewhere (frame : Signed Body) : Type 0 where
  pub ring : Ring
  pub is_standing : IsTrue (stands ring frame)

-- the first test that the part of this number fails
unfoldable pub part_fault : Ring → ℕ → Signed Body → Option CheckRefusal
part_fault ring number part =
    if is_known ring part
    then (if is_signed ring part
    then (if in_place ring.group part then None else Some (refusal.Misplaced number))
    else Some (refusal.Unsigned number))
    else Some (refusal.SignerUnknown part.signer)

abbrev pub or_else : Option CheckRefusal → Option CheckRefusal → Option CheckRefusal
or_else (Some fault) later = Some fault
or_else None later = later

-- the first test that any of these parts fails, the first of which has this number
abbrev pub fault_from : Ring → ℕ → List (Signed Body) → Option CheckRefusal
fault_from ring number [] = None
fault_from ring number (part ∷ rest) = or_else (part_fault ring number part) (fault_from ring (suc number) rest)

-- the first test that any part of the frame fails; the frame itself is part 0
unfoldable pub first_fault : Ring → Signed Body → Option CheckRefusal
first_fault ring frame = fault_from ring 0 (parts frame)

-- a refusal is the first fault, unless it is want of memory
abbrev pub IsFault : CheckRefusal → Option CheckRefusal → Type 0
IsFault refusal.Want first = Unit {0}
IsFault (refusal.SignerUnknown signer) first = first ≡ Some (refusal.SignerUnknown signer)
IsFault (refusal.Unsigned number) first = first ≡ Some (refusal.Unsigned number)
IsFault (refusal.Misplaced number) first = first ≡ Some (refusal.Misplaced number)

-- a part as what it says: its signer and its body
abbrev pub said_by : Signed Body → ℕ × Body
said_by part = (part.signer, part.body)

-- who said what, where some bytes are that actor's signature of it by the ring's keys, and it is in its place
pub record IsSaidIn (ring : Ring) (said : ℕ × Body) : Type 0 where
  pub sig : List ℕ
  pub stands : IsTrue (part_stands ring record { signer = said.0; body = said.1; sig = sig })

-- each of these parts stands in the ring
abbrev pub AllStand : Ring → List (Signed Body) → Type 0
AllStand ring words = Each (λ part. IsTrue (part_stands ring part)) words

-- where the frame stands in the ring, each part of it does
abbrev pub PartsStand : Ring → Signed Body → Type 0
PartsStand ring frame = IsTrue (stands ring frame) → AllStand ring (parts frame)
