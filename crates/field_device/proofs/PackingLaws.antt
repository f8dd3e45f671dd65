-- One byte, one bit or one register more.
use Rattle.std.proofs.Common.{◌≡◌, ◌<◌, ◌≤◌, ◌+◌, ◌*◌, ◌/◌, ◌%◌, ◌^◌, min, ℕ, suc, Bool, true, false, List, [], ◌∷◌}
use Rattle.std.proofs.Common.{◌++◌, length, take, drop, refl, sym, ap, ◌∙◌, arith, length-append, append_assoc}
use Rattle.std.proofs.Common.{add-zero, inl, inr, get_or}
use Rattle.std.specs.Prelude.{map, slice_set, slice_index}
use Rattle.std.specs.List.{range_with_len, flat_map}
use Rattle.wire_parts.specs.Fields.{u16_bytes}
use Rattle.wire_parts.specs.FieldLaws.{length-u16_bytes}
use Rattle.std.proofs.lemmas.List.{append-nil, take-append-drop, take_all, drop_more, length-take-le, length-drop}
use Rattle.std.proofs.lemmas.List.FromFn.{map-range_with_len_more, length-map-range_with_len}
use Rattle.std.proofs.Math.Seq.{set-append_seam}
use Rattle.std.proofs.Math.Pow.{pow_mono}
use Rattle.std.proofs.Math.Nat.{two-pow-succ}
use Rattle.std.proofs.lemmas.Bool.Decides.{leb_tells}
use Rattle.field_device.specs.Places.{bit_number}
use Rattle.field_device.specs.Packing.{byte_of, eight_from, byte_count, packed, bit_in, bits_in, register_in}
use Rattle.field_device.specs.Packing.{registers_in, register_bytes, overwritten}

-- the first eight of a list, by a count that is no more than there are
pub eight_is : (bits : List Bool) (k : ℕ) →
    take (min (length (drop (8 * k) bits)) 8) (drop (8 * k) bits) ≡ eight_from bits k
eight_is bits k = first_of (drop (8 * k) bits) where
  first_of : (xs : List Bool) → take (min (length xs) 8) xs ≡ take 8 xs
  first_of xs = elim (leb_tells (length xs) 8) [
    | inl few ↦ let h = few.1 in take_all (min (length xs) 8) xs (omega (arith, h)) ∙ sym (take_all 8 xs h)
    | inr many ↦ let h = many.1 in ap (λ n. take n xs) (let e : min (length xs) 8 ≡ 8 = omega (arith, h) in e)
  ]

-- a byte holds the bits, so many are below a power of two
pub byte_within : (b : Bool) (n byte : ℕ) → byte < 2 ^ n → n < 8 → bit_number b + 2 * byte < 2 ^ suc n
byte_within true n byte less few = let h = two-pow-succ n in omega (arith, h)
byte_within false n byte less few = let h = two-pow-succ n in omega (arith, h)

pub byte_small : (n byte : ℕ) → byte < 2 ^ n → n < 8 → byte < 128
byte_small n byte less few = let h = pow_mono {i = n} {j = 7} (omega arith) in omega (arith, h)

-- values written one further
pub overwrite_none : {X : Type 0} (xs : List X) (p : ℕ) → overwritten xs p [] ≡ xs
overwrite_none xs p = ap (λ front. front ++ drop (p + 0) xs) (append-nil (take p xs))
    ∙ ap (λ n. take p xs ++ drop n xs) (add-zero p) ∙ take-append-drop p xs

pub overwrite_more : {X : Type 0} (xs ys : List X) (p : ℕ) (y : X) → p + length ys < length xs
    → slice_set (overwritten xs p ys) (p + length ys) y ≡ overwritten xs p (ys ++ y ∷ [])
overwrite_more xs ys p y less =
    let front = take p xs ++ ys in
    let size : length (take p xs ++ ys) ≡ p + length ys =
    omega (arith, length-append (take p xs) ys, length-take-le p xs (omega arith)) in
    let there : drop (p + length ys) xs ≡ get_or xs (p + length ys) y ∷ drop (p + length ys + 1) xs =
    drop_more xs (p + length ys) y less in
    let further : p + length ys + 1 ≡ p + length (ys ++ y ∷ []) = omega (arith, length-append ys (y ∷ [])) in
    ap (λ rest. slice_set (front ++ rest) (p + length ys) y) there
    ∙ ap (λ n. slice_set (front ++ (get_or xs (p + length ys) y ∷ drop (p + length ys + 1) xs)) n y) (sym size)
    ∙ set-append_seam front (get_or xs (p + length ys) y) (drop (p + length ys + 1) xs) y
    ∙ ap (λ n. front ++ (y ∷ drop n xs)) further
    ∙ sym (append_assoc front (y ∷ []) (drop (p + length (ys ++ y ∷ [])) xs))
    ∙ ap (λ all. all ++ drop (p + length (ys ++ y ∷ [])) xs) (append_assoc (take p xs) ys (y ∷ []))

-- the loops that write: what is written so far, and one more
pub bits_none : (xs : List Bool) (p : ℕ) (bytes : List ℕ) → xs ≡ overwritten xs p (bits_in 0 bytes)
unfolding bits_in
bits_none xs p bytes = sym (overwrite_none xs p)

pub bits_more : (xs now : List Bool) (p i : ℕ) (bytes : List ℕ) → p + i < length xs →
    now ≡ overwritten xs p (bits_in i bytes)
    → slice_set now (p + i) (bit_in bytes i) ≡ overwritten xs p (bits_in (i + 1) bytes)
unfolding bits_in
bits_more xs now p i bytes less is =
    let count : length (map (bit_in bytes) (range_with_len 0 i)) ≡ i = length-map-range_with_len (bit_in bytes) 0 i in
    ap (λ list. slice_set list (p + i) (bit_in bytes i)) is
    ∙ ap (λ n. slice_set (overwritten xs p (map (bit_in bytes) (range_with_len 0 i))) (p + n) (bit_in bytes i))
    (sym count)
    ∙ overwrite_more xs (map (bit_in bytes) (range_with_len 0 i)) p (bit_in bytes i) (omega (arith, count))
    ∙ ap (overwritten xs p) (sym (map-range_with_len_more (bit_in bytes) 0 i i (omega arith)))

pub registers_none : (xs : List ℕ) (p : ℕ) (bytes : List ℕ) → xs ≡ overwritten xs p (registers_in 0 bytes)
unfolding registers_in
registers_none xs p bytes = sym (overwrite_none xs p)

pub registers_more : (xs now : List ℕ) (p i : ℕ) (bytes : List ℕ) → p + i < length xs →
    now ≡ overwritten xs p (registers_in i bytes)
    → slice_set now (p + i) (register_in bytes i) ≡ overwritten xs p (registers_in (i + 1) bytes)
unfolding registers_in
registers_more xs now p i bytes less is =
    let count : length (map (register_in bytes) (range_with_len 0 i)) ≡ i =
    length-map-range_with_len (register_in bytes) 0 i in
    ap (λ list. slice_set list (p + i) (register_in bytes i)) is
    ∙ ap (λ n. slice_set (overwritten xs p (map (register_in bytes) (range_with_len 0 i))) (p + n)
    (register_in bytes i)) (sym count)
    ∙ overwrite_more xs (map (register_in bytes) (range_with_len 0 i)) p (register_in bytes i) (omega (arith, count))
    ∙ ap (overwritten xs p) (sym (map-range_with_len_more (register_in bytes) 0 i i (omega arith)))

-- a loop that packs: the bytes so far, and one more
abbrev pub bytes_so_far : List Bool → ℕ → List ℕ
bytes_so_far bits k = map (λ j. byte_of (eight_from bits j)) (range_with_len 0 k)

pub packed_more : (bits : List Bool) (k : ℕ) → bytes_so_far bits k ++ byte_of (eight_from bits k)
    ∷ [] ≡ bytes_so_far bits (k + 1)
packed_more bits k = sym (map-range_with_len_more (λ j. byte_of (eight_from bits j)) 0 k k (omega arith))

-- how many bytes there are
pub length-bytes_so_far : (bits : List Bool) (k : ℕ) → length (bytes_so_far bits k) ≡ k
length-bytes_so_far bits k = length-map-range_with_len (λ j. byte_of (eight_from bits j)) 0 k

pub length-register_bytes : (registers : List ℕ) → length (register_bytes registers) ≡ 2 * length registers
unfolding register_bytes
length-register_bytes [] = refl
length-register_bytes (r ∷ rest) =
    let more = length-register_bytes rest in
    omega (arith, more, length-append (u16_bytes r) (flat_map u16_bytes rest), length-u16_bytes r)
