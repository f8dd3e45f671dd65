-- What is kept of the words taken: each master's first word for each kind and numbers, and who is named. (This
-- project's own.)
use Rattle.std.specs.Prelude.{◌≡◌, ◌<◌, ◌++◌, ℕ, Bool, false, List, length, take, Option, Some, None}
use Rattle.std.specs.List.{find}
use Rattle.std.specs.Option.{option_map_or}
use Rattle.indexmap.specs.IndexMap.{get}
use Rattle.message_types.specs.declared.signed.Signed.{Signed}
use Rattle.message_types.specs.declared.body.Body.{Body}
use Rattle.message_types.specs.declared.body.Body.TheVariants as body
use Rattle.protocol_rules.specs.Keys.{Key, same_key}
use Rattle.checked_frames.specs.Standing.{Ring, AllStand}
use Rattle.blame_check.specs.declared.blame.Blame.{Blame}
use Rattle.blame_check.specs.Contradictions.{named}

-- a kind of words and two numbers
abbrev pub Slot : Type 0
Slot = ℕ × ℕ × ℕ

abbrev pub key_for : ℕ → Slot → Key
key_for master slot = (master, slot.0, slot.1, slot.2)

-- the kind of a word by its number on the wire, and the numbers for which a correct master says one word of that kind
abbrev pub slot_of : Body → Option Slot
slot_of (body.PoAck b) = Some (3, b.j, b.k)
slot_of (body.PrePrepare b) = Some (5, b.v, b.s)
slot_of (body.Prepare b) = Some (6, b.v, b.s)
slot_of (body.Commit b) = Some (7, b.v, b.s)
slot_of _ = None

-- the word is kept under this key, if it is kept
abbrev pub fills : Key → Signed Body → Bool
fills key p = option_map_or (λ slot. same_key (key_for p.signer slot) key) (slot_of p.body) false

-- of n masters these words were taken, in this order
pub record HasTaken (n : ℕ) (words : List (Signed Body)) (blame : Blame) : Type 0 where
  pub masters : blame.masters ≡ n
  pub firsts : (key : Key) → get same_key blame.firsts key ≡ find (fills key) words
  pub pairs : blame.pairs.items ≡ named n words

-- whatever was taken of n masters, all of it stands in the ring
pub record IsOfRing (ring : Ring) (n : ℕ) (blame : Blame) : Type 0 where
  pub words : List (Signed Body)
  pub taken : HasTaken n words blame
  pub stand : AllStand ring words

-- of n masters these words were taken, and then a beginning of these parts, but not all of them
pub record HasBegun (n : ℕ) (words parts : List (Signed Body)) (blame : Blame) : Type 0 where
  pub count : ℕ
  pub some : count < length parts
  pub taken : HasTaken n (words ++ take count parts) blame
