-- An LMS public key is what is read at its fields' places.
use Rattle.std.proofs.Common.{◌≡◌, ◌≤◌, ◌<◌, ◌+◌, ◌-◌, ◌*◌, ◌/◌, ◌^◌, ℕ, Bool, true, false, ◌&&◌, List, [], ◌∷◌, ◌++◌}
use Rattle.std.proofs.Common.{length, take, drop, Option, Some, None, refl, sym, ap, ◌∙◌, subst, arith, nat_eq}
use Rattle.std.proofs.Common.{eqb-true, if◌then◌else◌}
use Rattle.std.specs.Prelude.{option_and_then}
use Rattle.std.specs.Bool.{Decides}
use Rattle.std.specs.List.{list_any, Contains}
use Rattle.std.specs.Option.{option_map_or}
use Rattle.std.specs.Str.{bytes_eq}
use Rattle.std.proofs.lemmas.Bool.{cond-true, cases_Bool, true≢false}
use Rattle.std.proofs.lemmas.Cmp.{nat_eq_equiv}
use Rattle.std.proofs.lemmas.Bool.Decides.{Decides-like, Decides-and, Decides-eqb}
use Rattle.std.proofs.lemmas.List.{take-append-drop, drop-drop}
use Rattle.std.proofs.lemmas.Map.Views.{list_any-from_Contains, Contains-from_any}
use Rattle.std.proofs.lemmas.Option.{cond_some}
use Rattle.std.proofs.lemmas.Slice.Eq.{bytes_eq-Decides}
use Rattle.byteorder.specs.Endian.{big_number}
use Rattle.byteorder.specs.Numbers.{big_number-reads_back}
use Rattle.wire_parts.specs.Fields.{u32_bytes}
use Rattle.ots_keys.specs.declared.parameters.Ots.{Ots}
use Rattle.ots_keys.specs.declared.parameters.Ots.TheVariants.{W1, W2, W4, W8}
use Rattle.ots_keys.specs.Parameters.{type_code}
use Rattle.tree_keys.specs.declared.public_key.PublicKey.{PublicKey}
use Rattle.tree_keys.specs.PublicKeys.{IsTreeHeight, tree_code, key_bytes, IsKey}
use Rattle.tree_keys.proofs.Heights.{height_le, tree_code-lt, type_code-lt}
use Rattle.tree_keys.proofs.KeyLaws.{key_cuts}
use Rattle.checked_frames.specs.Verifying.{ots_of, height_of, is_key, key_read, key_in}

height_tests : (h : ℕ) → Decides (list_any (nat_eq h) (5 ∷ 10 ∷ 15 ∷ 20 ∷ 25 ∷ [])) (IsTreeHeight h)
height_tests h = (
  Contains-from_any {eq = nat_eq} (λ x y. eqb-true x y) h (5 ∷ 10 ∷ 15 ∷ 20 ∷ 25 ∷ []),
  list_any-from_Contains nat_eq_equiv h (5 ∷ 10 ∷ 15 ∷ 20 ∷ 25 ∷ []),
)

pub is_key-Decides : (key : PublicKey) (bytes : List ℕ) → Decides (is_key key bytes) (IsKey key bytes)
is_key-Decides key bytes =
    let spelled = bytes_eq bytes (key_bytes key) in
    let height = list_any (nat_eq key.height) (5 ∷ 10 ∷ 15 ∷ 20 ∷ 25 ∷ []) in
    let id = nat_eq (length key.id) 16 in
    let root = nat_eq (length key.root) 32 in
    let two = Decides-and spelled height (bytes_eq-Decides bytes (key_bytes key)) (height_tests key.height) in
    let three = Decides-and (spelled && height) id two (Decides-eqb (length key.id) 16) in
    let four = Decides-and (spelled && height && id) root three (Decides-eqb (length key.root) 32) in
    Decides-like (is_key key bytes)
    (λ t. record { spelled = t.0.0.0; height = t.0.0.1; id = t.0.1; root = t.1 })
    (λ k. (((k.spelled, k.height), k.id), k.root))
    four

-- the number that stands in front
pub number_front : (bytes : List ℕ) (x : ℕ) → x < 2 ^ 32 → take 4 bytes ≡ u32_bytes x → big_number 4 bytes ≡ x
unfolding u32_bytes
number_front bytes x fits e =
    ap (big_number 4) (sym (take-append-drop 4 bytes) ∙ ap (λ f. f ++ drop 4 bytes) e)
    ∙ big_number-reads_back 4 x (drop 4 bytes) fits

height_back : (h : ℕ) → IsTreeHeight h → height_of (tree_code h) ≡ h
height_back h is = grind arith

ots_back : (ots : Ots) → ots_of (type_code ots) ≡ Some ots
ots_back W1 = refl
ots_back W2 = refl
ots_back W4 = refl
ots_back W8 = refl

key_from : ℕ → Ots → List ℕ → List ℕ → PublicKey
key_from height ots id root = record { height = height; ots = ots; id = id; root = root }

read_is : (key : PublicKey) (bytes : List ℕ) → IsKey key bytes → key_read bytes key.ots ≡ key
unfolding key_from
read_is key bytes is =
    let cuts = key_cuts key bytes is in
    let low = height_le key.height is.height in
    let code = number_front bytes (tree_code key.height) (tree_code-lt key.height low) cuts.first in
    let height = ap height_of code ∙ height_back key.height is.height in
    let at_id : drop 4 (drop 4 bytes) ≡ drop 8 bytes = drop-drop 4 4 bytes in
    let id = ap (take 16) (sym at_id) ∙ cuts.third in
    let root = sym (drop-drop 16 8 bytes) ∙ ap (drop 16) (sym at_id) ∙ cuts.fourth in
    ap (λ h. key_from h key.ots (take 16 (drop 8 bytes)) (drop 24 bytes)) height
    ∙ ap (λ i. key_from key.height key.ots i (drop 24 bytes)) id
    ∙ ap (λ r. key_from key.height key.ots key.id r) root

-- bytes that are a key are read as that key
pub key_in-some : (key : PublicKey) (bytes : List ℕ) → IsKey key bytes → key_in bytes ≡ Some key
unfolding key_in
key_in-some key bytes is =
    let cuts = key_cuts key bytes is in
    let code = number_front (drop 4 bytes) (type_code key.ots) (type_code-lt key.ots) cuts.second in
    let found : ots_of (big_number 4 (drop 4 bytes)) ≡ Some key.ots = ap ots_of code ∙ ots_back key.ots in
    let read = read_is key bytes is in
    let test : is_key (key_read bytes key.ots) bytes ≡ true = ap (λ k. is_key k bytes) read
    ∙ (is_key-Decides key bytes).1 is in
    ap (option_and_then (λ ots. if is_key (key_read bytes ots) bytes then Some (key_read bytes ots) else None)) found
    ∙ cond-true (is_key (key_read bytes key.ots) bytes) (Some (key_read bytes key.ots)) None test
    ∙ ap Some read

-- and bytes that are read as a key are that key
pub key_in-is : (key : PublicKey) (bytes : List ℕ) → key_in bytes ≡ Some key → IsKey key bytes
unfolding key_in
key_in-is key bytes e = by (ots_of (big_number 4 (drop 4 bytes))) e
  where
    by : (o : Option Ots)
        → option_and_then (λ ots. if is_key (key_read bytes ots) bytes then Some (key_read bytes ots) else None)
        o ≡ Some key
        → IsKey key bytes
    by None h = cc
    by (Some ots) h =
        let both = cond_some (is_key (key_read bytes ots) bytes) (key_read bytes ots) key h in
        subst (λ k. IsKey k bytes) both.1 ((is_key-Decides (key_read bytes ots) bytes).0 both.0)

-- a test of the key that the bytes are decides a fact of it
pub of_key-Decides : (test : PublicKey → Bool) (P : PublicKey → Type 0) (bytes : List ℕ)
    → ((key : PublicKey) → IsKey key bytes → Decides (test key) (P key))
    → Decides (option_map_or test (key_in bytes) false) ((key : PublicKey) × IsKey key bytes × P key)
of_key-Decides test P bytes each = (forward (key_in bytes) refl, backward)
  where
    forward : (o : Option PublicKey) → key_in bytes ≡ o → option_map_or test o false ≡ true →
        (key : PublicKey) × IsKey key bytes × P key
    forward None e h = absurd (true≢false (sym h))
    forward (Some key) e h = let is = key_in-is key bytes e in (key, is, (each key is).0 h)

    backward : ((key : PublicKey) × IsKey key bytes × P key) → option_map_or test (key_in bytes) false ≡ true
    backward (key, is, p) = ap (λ o. option_map_or test o false) (key_in-some key bytes is) ∙ (each key is).1 p
