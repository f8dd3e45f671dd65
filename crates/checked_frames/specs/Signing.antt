-- Which bytes sign a text. A signature field holds an HSS signature of the text, or, in its second version, one of a
-- group of 2 to MOST_SHARING bodies' message with the path that leads from the text to the group's root (this project's
-- own).
use Rattle.std.specs.Prelude.{ℕ, ◌+◌, ◌*◌, ◌/◌, ◌<◌, IsTrue, Bool, false, ◌&&◌, ◌||◌, List, [], ◌∷◌, ◌++◌, length}
use Rattle.std.specs.Prelude.{take, drop, map, nat_eq, nat_le, nat_lt}
use Rattle.std.specs.List.{slice_index_or}
use Rattle.std.specs.Option.{option_map_or}
use Rattle.byteorder.specs.Endian.{big_number}
use Rattle.wire_parts.specs.Fields.{u16_bytes, u32_bytes}
use Rattle.quorum_sets.specs.Masters.{numbers_below}
use Rattle.message_types.specs.declared.limits.TheConstants.{MOST_SIGNATURE_BYTES}
use Rattle.message_forms.specs.Batch.{batch_message}
use Rattle.hash_signatures.specs.Signatures.{Key, signature_at}
use Rattle.history_rules.specs.declared.limits.TheConstants.{MOST_SHARING}
use Rattle.checked_frames.specs.Verifying.{verifies}
use Rattle.checked_frames.specs.Groups.{leaf_hash, root_of, path_of, led_to, most_levels}

-- what stands in the second version before the HSS signature: a mark (an HSS signature begins with 0 to 7), the place
-- in the group, how many bodies it has, and the path as a list of hashes
unfoldable pub group_head : ℕ → ℕ → List ℕ → List ℕ
group_head place count path =
    u32_bytes 256 ++ u16_bytes place ++ u16_bytes count ++ u16_bytes (length path / 32) ++ path

-- the second version
unfoldable pub group_field : ℕ → ℕ → List ℕ → List ℕ → List ℕ
group_field place count path signed = group_head place count path ++ signed

-- how many hashes the path of a second version has
abbrev pub hashes_in : List ℕ → ℕ
hashes_in sig = big_number 2 (drop 8 sig)

-- the HSS signature at the end signs the message of the group whose root the path leads to
abbrev pub group_verifies : List ℕ → List ℕ → List ℕ → Bool
group_verifies public text sig =
    let place = big_number 2 (drop 4 sig) in
    let count = big_number 2 (drop 6 sig) in
    option_map_or (λ root. verifies public (batch_message count root) (drop (32 * hashes_in sig) (drop 10 sig)))
    (led_to most_levels count place (leaf_hash text) (take (32 * hashes_in sig) (drop 10 sig))) false

-- the bytes have the second version's form and sign the text
unfoldable pub signs_in_group : List ℕ → List ℕ → List ℕ → Bool
signs_in_group public text sig =
    let place = big_number 2 (drop 4 sig) in
    let count = big_number 2 (drop 6 sig) in
    nat_le 10 (length sig) && nat_eq (big_number 4 sig) 256
    && nat_le 2 count && nat_le count MOST_SHARING && nat_lt place count
    && nat_le (10 + 32 * hashes_in sig) (length sig)
    && group_verifies public text sig

-- under a public key the bytes sign the text
unfoldable pub signs : List ℕ → List ℕ → List ℕ → Bool
signs public text sig = verifies public text sig || signs_in_group public text sig

-- what a key signs for bodies with these texts: the text of one body, the message of several
abbrev pub signed_message : List (List ℕ) → List ℕ
signed_message (text ∷ []) = text
signed_message texts = batch_message (length texts) (root_of (map leaf_hash texts))

-- the signature field of the body at a place, made of the key's signature
abbrev pub field_at : List (List ℕ) → List ℕ → ℕ → List ℕ
field_at (text ∷ []) signed place = signed
field_at texts signed place = group_field place (length texts) (path_of (map leaf_hash texts) place) signed

-- the signature fields of bodies with these texts, in order, from signature m of the key
unfoldable pub group_signatures : Key → ℕ → List (List ℕ) → List (List ℕ)
group_signatures key m texts =
    map (field_at texts (signature_at key m (signed_message texts))) (numbers_below (length texts))

-- each of the fields signs the text at its place
abbrev pub EachSigns : List ℕ → List (List ℕ) → List (List ℕ) → Type 0
EachSigns public texts fields =
    (place : ℕ) → place < length texts →
    IsTrue (signs public (slice_index_or texts place []) (slice_index_or fields place []))

-- within a frame's limit for signatures
abbrev pub field_fits : List ℕ → Bool
field_fits field = nat_le (length field) MOST_SIGNATURE_BYTES
