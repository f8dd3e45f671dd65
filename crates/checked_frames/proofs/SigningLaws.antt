-- What is made of a verified signature signs each text of its group.
use Rattle.std.proofs.Common.{◌≡◌, ◌≤◌, ◌<◌, ◌+◌, ◌*◌, ℕ, zero, suc, Bool, true, false, List}
use Rattle.std.proofs.Common.{[], ◌∷◌, ◌++◌, length, take, drop, map, get_or, Some, None, refl, sym, ap, ◌∙◌}
use Rattle.std.proofs.Common.{subst, arith, eq-eqb, lt-ltb, le-leb, inl, inr}
use Rattle.std.specs.Prelude.{slice_get}
use Rattle.std.specs.List.{list_all}
use Rattle.std.specs.Option.{option_map_or}
use Rattle.std.proofs.lemmas.Bool.{and_from, or_left, or_right, cases_lt}
use Rattle.std.proofs.lemmas.List.{length-map, get_or-map, get_or_append_left}
use Rattle.std.proofs.Math.Seq.{get_or-append_seam}
use Rattle.byteorder.specs.Endian.{big_number}
use Rattle.quorum_sets.specs.Masters.{numbers_below}
use Rattle.message_forms.specs.Batch.{batch_message}
use Rattle.hash_signatures.specs.Verification.{Verifies}
use Rattle.hash_signatures.specs.Signatures.{Key, signature_at, signed_behind, longest_signature}
use Rattle.checked_frames.specs.Verifying.{verifies}
use Rattle.checked_frames.specs.Groups.{leaf_hash, root_of, path_of, led_to, most_levels}
use Rattle.checked_frames.specs.Signing.{group_head, group_field, hashes_in, group_verifies, signs_in_group, signs}
use Rattle.checked_frames.specs.Signing.{signed_message, field_at, group_signatures, EachSigns, field_fits}
use Rattle.checked_frames.specs.Levels.{levels_up}
use Rattle.checked_frames.specs.Heads.{head_through, IsUnsigned}
use Rattle.checked_frames.proofs.PathLaws.{AreHashes, AreHashes-leaves, leads_to_root, path_size, path_through_levels}
use Rattle.checked_frames.proofs.FieldReads.{group_field-length, group_field-read}
use Rattle.checked_frames.proofs.VerifyingLaws.{verifies-Decides}
use Rattle.quorum_sets.proofs.Numbered.{length-numbers_below}
use Rattle.plain_lists.proofs.Lists.{map_map}

-- the code's answer, from what it read
pub group_verifies-is : (public text sig : List ℕ) (place count hashes : ℕ)
    (path signed root message : List ℕ) (r : Bool)
    → big_number 2 (drop 4 sig) ≡ place → big_number 2 (drop 6 sig) ≡ count → hashes_in sig ≡ hashes
    → take (32 * hashes) (drop 10 sig) ≡ path → drop (32 * hashes) (drop 10 sig) ≡ signed
    → led_to most_levels count place (leaf_hash text) path ≡ Some root → message ≡ batch_message count root
    → r ≡ verifies public message signed → r ≡ group_verifies public text sig
group_verifies-is public text sig place count hashes path signed root message r e_place e_count e_hashes e_path
    e_signed leads e_message e =
    let path_at = ap (λ (h : ℕ). take (32 * h) (drop 10 sig)) e_hashes ∙ e_path in
    let signed_at = ap (λ (h : ℕ). drop (32 * h) (drop 10 sig)) e_hashes ∙ e_signed in
    let answer : List ℕ → ℕ → ℕ → List ℕ → Bool =
    λ s c p w. option_map_or (λ x. verifies public (batch_message c x) s)
    (led_to most_levels c p (leaf_hash text) w) false in
    let whole : group_verifies public text sig ≡ answer signed count place path =
    ap (λ s. answer s (big_number 2 (drop 6 sig)) (big_number 2 (drop 4 sig))
    (take (32 * hashes_in sig) (drop 10 sig))) signed_at
    ∙ ap (λ (c : ℕ). answer signed c (big_number 2 (drop 4 sig)) (take (32 * hashes_in sig) (drop 10 sig))) e_count
    ∙ ap (λ (p : ℕ). answer signed count p (take (32 * hashes_in sig) (drop 10 sig))) e_place
    ∙ ap (λ w. answer signed count place w) path_at in
    e ∙ ap (λ m. verifies public m signed) e_message
    ∙ sym (whole ∙ ap (λ o. option_map_or (λ x. verifies public (batch_message count x) signed) o false) leads)

-- a field of a group signs the text whose path it has
field_signs : (public text path signed root : List ℕ) (place count hashes : ℕ) → 2 ≤ count → count ≤ 32 →
    place < count → hashes ≤ 5 → length path ≡ 32 * hashes
    → led_to most_levels count place (leaf_hash text) path ≡ Some root →
    Verifies public (batch_message count root) signed
    → signs public text (group_field place count path signed) ≡ true
unfolding signs signs_in_group
field_signs public text path signed root place count hashes some few inside levels size leads verified =
    let sig = group_field place count path signed in
    let read = group_field-read place count hashes path signed (omega arith) (omega arith) (omega arith) size in
    let room = read.room in
    let place_is = read.place_is in
    let count_is = read.count_is in
    let hashes_is = read.hashes_is in
    let test = (verifies-Decides public (batch_message count root) signed).1 verified in
    let inner : group_verifies public text sig ≡ true =
    sym (group_verifies-is public text sig place count hashes path signed root (batch_message count root) true
    read.place_is read.count_is read.hashes_is read.path_is read.signed_is leads refl (sym test)) in
    let a = le-leb 10 (length sig) (omega arith) in
    let b = eq-eqb (big_number 4 sig) 256 read.mark in
    let c = le-leb 2 (big_number 2 (drop 6 sig)) (omega arith) in
    let d = le-leb (big_number 2 (drop 6 sig)) 32 (omega arith) in
    let e = lt-ltb (big_number 2 (drop 4 sig)) (big_number 2 (drop 6 sig)) (omega arith) in
    let f = le-leb (10 + 32 * hashes_in sig) (length sig) (omega arith) in
    or_right (verifies public text sig) (signs_in_group public text sig)
    (and_from _ _ (and_from _ _ (and_from _ _ (and_from _ _ (and_from _ _ (and_from _ _ a b) c) d) e) f) inner)

lone_signs : (public text signed : List ℕ) (place : ℕ) → place < 1 → Verifies public text signed
    → signs public (get_or (text ∷ []) place []) signed ≡ true
unfolding signs
lone_signs public text signed zero inside verified =
    or_left (verifies public text signed) (signs_in_group public text signed)
    ((verifies-Decides public text signed).1 verified)
lone_signs public text signed (suc place) inside verified = absurd (omega arith)

path_of-size : (leaves : List (List ℕ)) (place : ℕ) → AreHashes leaves
    → (hashes : ℕ) × (hashes ≤ 5) × (length (path_of leaves place) ≡ 32 * hashes)
unfolding path_of most_levels
path_of-size leaves place all = path_size 5 leaves place all

-- each text of a group is signed by its field, where the group's message is
pub field_at-signs : (public : List ℕ) (texts : List (List ℕ)) (signed : List ℕ) (place : ℕ) →
    length texts ≤ 32 → place < length texts
    → Verifies public (signed_message texts) signed
    → signs public (get_or texts place []) (field_at texts signed place) ≡ true
field_at-signs public [] signed place few inside verified = absurd (omega arith)
field_at-signs public (text ∷ []) signed place few inside verified = lone_signs public text signed place inside verified
field_at-signs public (text ∷ next ∷ rest) signed place few inside verified =
    let texts = text ∷ next ∷ rest in
    let leaves = map leaf_hash texts in
    let len = length-map texts leaf_hash in
    let all = AreHashes-leaves texts in
    let within : place < length leaves = omega arith in
    let here : get_or leaves place [] ≡ leaf_hash (get_or texts place []) =
    get_or-map leaf_hash texts place [] [] inside in
    let leads = leads_to_root leaves place all within (omega arith) in
    let at_count = ap (λ (c : ℕ). led_to most_levels c place (get_or leaves place []) (path_of leaves place))
    (sym len) ∙ leads in
    let at_text = ap (λ h. led_to most_levels (length texts) place h (path_of leaves place)) (sym here) ∙ at_count in
    let (hashes, levels, size) = path_of-size leaves place all in
    field_signs public (get_or texts place []) (path_of leaves place) signed (root_of leaves) place (length texts)
    hashes (omega arith) few inside levels size at_text verified

number_at : (n k : ℕ) (d : ℕ) → k < n → get_or (numbers_below n) k d ≡ k
unfolding numbers_below
number_at zero k d h = absurd (omega arith)
number_at (suc n) k d h =
    let len = length-numbers_below n in
    elim (cases_lt k n) [
      | inl before ↦ get_or_append_left (numbers_below n) (n ∷ []) d k (omega arith) ∙ number_at n k d before
      | inr last ↦
          let e : k ≡ length (numbers_below n) = omega arith in
          let same : n ≡ k = omega arith in
          ap (λ (j : ℕ). get_or (numbers_below n ++ n ∷ []) j d) e ∙ get_or-append_seam (numbers_below n) n [] d ∙ same
    ]

-- all of them
pub each_signs : (public : List ℕ) (texts : List (List ℕ)) (signed : List ℕ) → length texts ≤ 32 →
    Verifies public (signed_message texts) signed
    → EachSigns public texts (map (field_at texts signed) (numbers_below (length texts)))
each_signs public texts signed few verified = λ place inside.
    let len = length-numbers_below (length texts) in
    let field : get_or (map (field_at texts signed) (numbers_below (length texts)))
    place [] ≡ field_at texts signed place =
    get_or-map (field_at texts signed) (numbers_below (length texts)) place 0 [] (omega arith)
    ∙ ap (field_at texts signed) (number_at (length texts) place 0 inside) in
    ap (λ f. signs public (get_or texts place []) f) field
    ∙ field_at-signs public texts signed place few inside verified

-- several texts are signed as a group, through the levels that are kept
several_fields : (texts : List (List ℕ)) (signed : List ℕ) (place : ℕ) → 2 ≤ length texts
    → head_through (levels_up 5 (map leaf_hash texts)) (length texts) place ++ signed ≡ field_at texts signed place
unfolding path_of most_levels group_field
several_fields [] signed place some = absurd (omega arith)
several_fields (text ∷ []) signed place some = absurd (omega arith)
several_fields (text ∷ next ∷ rest) signed place some =
    ap (λ path. group_head place (length (text ∷ next ∷ rest)) path ++ signed)
    (path_through_levels 5 (map leaf_hash (text ∷ next ∷ rest)) place)

several_message : (texts : List (List ℕ)) → 2 ≤ length texts →
    batch_message (length texts) (root_of (map leaf_hash texts)) ≡ signed_message texts
several_message [] some = absurd (omega arith)
several_message (text ∷ []) some = absurd (omega arith)
several_message (text ∷ next ∷ rest) some = refl

same_fields : {X : Type 0} (f g : ℕ → X) (numbers : List ℕ) → ((k : ℕ) → f k ≡ g k) → map f numbers ≡ map g numbers
same_fields f g [] same = refl
same_fields f g (n ∷ numbers) same = ap (λ x. x ∷ map f numbers) (same n)
    ∙ ap (λ xs. g n ∷ xs) (same_fields f g numbers same)

-- several bodies are signed as the definitions say of their texts
pub several_are : {A : Type 0} (text : A → List ℕ) (bodies : List A) (leaves : List (List ℕ))
    (levels : List (List (List ℕ))) (root message : List ℕ)
    (heads : List (List ℕ)) (count : ℕ) → 2 ≤ length bodies → count ≡ length bodies
    → leaves ≡ map (λ b. leaf_hash (text b)) bodies → levels ≡ levels_up 5 leaves → root ≡ root_of leaves
    → heads ≡ map (head_through levels count) (numbers_below count) → message ≡ batch_message count root
    → IsUnsigned (map text bodies) message heads
several_are text bodies leaves levels root message heads count some e_count e_leaves e_levels e_root e_heads e_message =
    let texts = map text bodies in
    let len = length-map bodies text in
    let over : leaves ≡ map leaf_hash texts = e_leaves ∙ sym (map_map leaf_hash text bodies) in
    let number : count ≡ length texts = omega arith in
    let top : root ≡ root_of (map leaf_hash texts) = e_root ∙ ap root_of over in
    let head : ℕ → List ℕ = head_through (levels_up 5 (map leaf_hash texts)) (length texts) in
    let at_levels : heads ≡ map head (numbers_below (length texts)) =
    e_heads ∙ ap (λ ls. map (head_through ls count) (numbers_below count)) (e_levels ∙ ap (levels_up 5) over)
    ∙ ap (λ (n : ℕ). map (head_through (levels_up 5 (map leaf_hash texts)) n) (numbers_below n)) number in
    record {
      message_is = e_message ∙ ap (λ (n : ℕ). batch_message n root) number ∙ ap (batch_message (length texts)) top
          ∙ several_message texts (omega arith);
      fields = λ signed. ap (λ hs. map (λ (h : List ℕ). h ++ signed) hs) at_levels
          ∙ map_map (λ (h : List ℕ). h ++ signed) head (numbers_below (length texts))
          ∙ same_fields (λ k. head k ++ signed) (field_at texts signed) (numbers_below (length texts))
          (λ k. several_fields texts signed k (omega arith));
    }

-- a tree over leaves has a root
pub first_is_there : {X : Type 0} (xs : List X) → 1 ≤ length xs → None ≡ slice_get xs 0 → ⊥
first_is_there [] some e = omega arith
first_is_there (x ∷ xs) some e = cc

-- one body is signed alone, with nothing before the signature
pub one_is : {A : Type 0} (text : A → List ℕ) (bodies : List A) (body : A) (message : List ℕ) (heads : List (List ℕ))
    → length bodies ≡ 1 → body ≡ get_or bodies 0 body → heads ≡ [] ∷ [] → message ≡ text body
    → IsUnsigned (map text bodies) message heads
unfolding numbers_below
one_is text [] body message heads one is e_heads e = absurd (omega arith)
one_is text (b ∷ []) body message heads one is e_heads e = record {
  message_is = e ∙ ap text is;
  fields = λ signed. ap (λ hs. map (λ (h : List ℕ). h ++ signed) hs) e_heads;
}
one_is text (b ∷ next ∷ rest) body message heads one is e_heads e = absurd (omega arith)

-- a key's signature of the message, put behind the heads, makes the fields of the group
pub group_signed : (texts : List (List ℕ)) (message : List ℕ) (heads : List (List ℕ)) (key : Key) (m : ℕ) →
    IsUnsigned texts message heads → signed_behind key m message heads ≡ group_signatures key m texts
unfolding group_signatures
group_signed texts message heads key m is =
    is.fields (signature_at key m message)
    ∙ ap (λ x. map (field_at texts (signature_at key m x)) (numbers_below (length texts))) is.message_is

-- the fields that a key gives sign their texts
pub group_signs : (public : List ℕ) (texts : List (List ℕ)) (key : Key) (m : ℕ) (fields : List (List ℕ)) →
    length texts ≤ 32
    → Verifies public (signed_message texts) (signature_at key m (signed_message texts)) →
    fields ≡ group_signatures key m texts → EachSigns public texts fields
unfolding group_signatures
group_signs public texts key m fields few verified e =
    subst (EachSigns public texts) (sym e)
    (each_signs public texts (signature_at key m (signed_message texts)) few verified)

-- what a key signed, as the signature of the group's message
pub verified_as : (public message whole : List ℕ) (key : Key) (m : ℕ) →
    Verifies public message (signature_at key m message) → message ≡ whole
    → Verifies public whole (signature_at key m whole)
verified_as public message whole key m verified e = subst (λ x. Verifies public x (signature_at key m x)) e verified

pub short_as : (message whole : List ℕ) (key : Key) (m : ℕ) →
    length (signature_at key m message) ≤ longest_signature → message ≡ whole
    → length (signature_at key m whole) ≤ longest_signature
short_as message whole key m short e = subst (λ (x : List ℕ). length (signature_at key m x) ≤ longest_signature) e short

-- a field is a little longer than the signature in it
group_field-len : (place count hashes : ℕ) (path signed : List ℕ) → hashes ≤ 5 → length path ≡ 32 * hashes
    → length (group_field place count path signed) ≤ length signed + 170
group_field-len place count hashes path signed few size = omega (arith, group_field-length place count path signed)

field_at-len : (texts : List (List ℕ)) (signed : List ℕ) (place : ℕ) →
    length (field_at texts signed place) ≤ length signed + 170
field_at-len [] signed place =
    let (hashes, few, size) = path_of-size [] place tt in
    group_field-len place 0 hashes (path_of [] place) signed few size
field_at-len (text ∷ []) signed place = omega arith
field_at-len (text ∷ next ∷ rest) signed place =
    let leaves = map leaf_hash (text ∷ next ∷ rest) in
    let (hashes, few, size) = path_of-size leaves place (AreHashes-leaves (text ∷ next ∷ rest)) in
    group_field-len place (length (text ∷ next ∷ rest)) hashes (path_of leaves place) signed few size

all_fit : (f : ℕ → List ℕ) (numbers : List ℕ) → ((k : ℕ) → field_fits (f k) ≡ true) →
    list_all field_fits (map f numbers) ≡ true
all_fit f [] each = refl
all_fit f (n ∷ numbers) each = and_from (field_fits (f n)) (list_all field_fits (map f numbers))
    (each n) (all_fit f numbers each)

-- the fields that a key gives are within a frame's limit
pub group_fits : (texts : List (List ℕ)) (key : Key) (m : ℕ) (fields : List (List ℕ)) →
    length (signature_at key m (signed_message texts)) ≤ longest_signature
    → fields ≡ group_signatures key m texts → list_all field_fits fields ≡ true
unfolding group_signatures longest_signature
group_fits texts key m fields short e =
    let signed = signature_at key m (signed_message texts) in
    ap (list_all field_fits) e
    ∙ all_fit (field_at texts signed) (numbers_below (length texts))
    (λ k. let len = field_at-len texts signed k in le-leb (length (field_at texts signed k)) 65536 (omega arith))
