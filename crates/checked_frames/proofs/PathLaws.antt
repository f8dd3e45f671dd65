-- The path of a leaf leads to the root of its tree.
use Rattle.std.proofs.Common.{◌≡◌, ◌≤◌, ◌<◌, ◌+◌, ◌-◌, ◌*◌, ◌/◌, ◌%◌, ◌==◌, ℕ, zero, suc, Bool, true, false, List, []}
use Rattle.std.proofs.Common.{◌∷◌, ◌++◌, length, take, drop, get_or, map, Option, Some, None, refl, sym, ap, ◌∙◌}
use Rattle.std.proofs.Common.{subst, arith, inl, inr, nat_lt, nat_le, lt-ltb, le-leb, if◌then◌else◌, length-append}
use Rattle.std.proofs.Common.{append_assoc}
use Rattle.std.proofs.lemmas.Bool.{cond-true, cond-false, cases_lt, le-ltb}
use Rattle.std.proofs.lemmas.List.{take_at, drop_at}
use Rattle.sha2.proofs.Facts256.{length-sha256}
use Rattle.wire_parts.specs.Fields.{u8_bytes}
use Rattle.checked_frames.specs.Groups.{leaf_hash, joined_hash, level_above, raised, most_levels, root_of, sibling}
use Rattle.checked_frames.specs.Groups.{beside, path_up, path_of, parent_hash, led_to}
use Rattle.checked_frames.specs.Levels.{levels_up, path_through}

-- each hash has 32 bytes
abbrev pub AreHashes : List (List ℕ) → Type 0
AreHashes [] = Unit {0}
AreHashes (node ∷ nodes) = (length node ≡ 32) × AreHashes nodes

pub AreHashes-leaves : (texts : List (List ℕ)) → AreHashes (map leaf_hash texts)
unfolding leaf_hash
AreHashes-leaves [] = tt
AreHashes-leaves (text ∷ texts) = (length-sha256 (u8_bytes 0 ++ text), AreHashes-leaves texts)

AreHashes-above : (nodes : List (List ℕ)) → AreHashes nodes → AreHashes (level_above nodes)
unfolding joined_hash
AreHashes-above [] all = tt
AreHashes-above (last ∷ []) all = all
AreHashes-above (left ∷ right ∷ rest) all = (length-sha256 (u8_bytes 1 ++ left ++ right), AreHashes-above rest all.1.1)

hash_at : (nodes : List (List ℕ)) (k : ℕ) → AreHashes nodes → k < length nodes → length (get_or nodes k []) ≡ 32
hash_at [] k all inside = absurd (omega arith)
hash_at (node ∷ nodes) zero all inside = all.0
hash_at (node ∷ nodes) (suc k) all inside = hash_at nodes k all.1 (omega arith)

length-above : (nodes : List (List ℕ)) → length (level_above nodes) ≡ (length nodes + 1) / 2
length-above [] = refl
length-above (last ∷ []) = refl
length-above (left ∷ right ∷ rest) = let below = length-above rest in omega arith

-- two places on, everything is the same
odd_on : (p : ℕ) → (suc (suc p) % 2 == 1) ≡ (p % 2 == 1)
odd_on p = let e : suc (suc p) % 2 ≡ p % 2 = omega arith in ap (λ (r : ℕ). r == 1) e

half_on : (p : ℕ) → suc (suc p) / 2 ≡ suc (p / 2)
half_on p = omega arith

sibling_on : (p : ℕ) → sibling (suc (suc p)) ≡ suc (suc (sibling p))
sibling_on p = elim (cases_lt (p % 2) 1) [
  | inl even ↦
      let none : (p % 2 == 1) ≡ false = let e : p % 2 ≡ 0 = omega arith in ap (λ (r : ℕ). r == 1) e in
      cond-false (suc (suc p) % 2 == 1) (suc (suc p) - 1) (suc (suc p) + 1) (odd_on p ∙ none)
      ∙ (let e : suc (suc p) + 1 ≡ suc (suc (p + 1)) = omega arith in e)
      ∙ ap (λ (k : ℕ). suc (suc k)) (sym (cond-false (p % 2 == 1) (p - 1) (p + 1) none))
  | inr odd ↦
      let one : (p % 2 == 1) ≡ true = let e : p % 2 ≡ 1 = omega arith in ap (λ (r : ℕ). r == 1) e in
      cond-true (suc (suc p) % 2 == 1) (suc (suc p) - 1) (suc (suc p) + 1) (odd_on p ∙ one)
      ∙ (let e : suc (suc p) - 1 ≡ suc (suc (p - 1)) = omega arith in e)
      ∙ ap (λ (k : ℕ). suc (suc k)) (sym (cond-true (p % 2 == 1) (p - 1) (p + 1) one))
]

parent_on : (p : ℕ) (here other : List ℕ) → parent_hash (suc (suc p)) here other ≡ parent_hash p here other
parent_on p here other = ap (λ (b : Bool). if b then joined_hash other here else joined_hash here other) (odd_on p)

-- the parent of two siblings stands in the level above
parent_above : (nodes : List (List ℕ)) (place : ℕ) → place < length nodes → sibling place < length nodes
    → get_or (level_above nodes) (place / 2) [] ≡ parent_hash place (get_or nodes place [])
    (get_or nodes (sibling place) [])
parent_above [] place inside paired = absurd (omega arith)
parent_above (last ∷ []) zero inside paired = absurd (let h : 1 < 1 = paired in omega arith)
parent_above (last ∷ []) (suc p) inside paired = absurd (omega arith)
parent_above (left ∷ right ∷ rest) zero inside paired = refl
parent_above (left ∷ right ∷ rest) (suc zero) inside paired = refl
parent_above (left ∷ right ∷ rest) (suc (suc p)) inside paired =
    let on = sibling_on p in
    let below : sibling p < length rest = omega arith in
    ap (λ (k : ℕ). get_or (joined_hash left right ∷ level_above rest) k []) (half_on p)
    ∙ parent_above rest p (omega arith) below
    ∙ sym (parent_on p (get_or rest p []) (get_or rest (sibling p) []))
    ∙ ap (λ (k : ℕ). parent_hash (suc (suc p)) (get_or rest p []) (get_or (left ∷ right ∷ rest) k [])) (sym on)

-- and an odd last node stands there too
last_above : (nodes : List (List ℕ)) (place : ℕ) → place < length nodes → length nodes ≤ sibling place
    → get_or (level_above nodes) (place / 2) [] ≡ get_or nodes place []
last_above [] place inside alone = absurd (omega arith)
last_above (last ∷ []) zero inside alone = refl
last_above (last ∷ []) (suc p) inside alone = absurd (omega arith)
last_above (left ∷ right ∷ rest) zero inside alone =
    absurd (let h : length (left ∷ right ∷ rest) ≤ 1 = alone in omega arith)
last_above (left ∷ right ∷ rest) (suc zero) inside alone =
    absurd (let h : length (left ∷ right ∷ rest) ≤ 0 = alone in omega arith)
last_above (left ∷ right ∷ rest) (suc (suc p)) inside alone =
    let on = sibling_on p in
    ap (λ (k : ℕ). get_or (joined_hash left right ∷ level_above rest) k []) (half_on p)
    ∙ last_above rest p (omega arith) (omega arith)

-- the place that stands so many levels above a place
halved : ℕ → ℕ → ℕ
halved zero place = place
halved (suc n) place = halved n (place / 2)

-- a level's hash and what follows it, and nothing where there is no sibling
beside_paired : (nodes : List (List ℕ)) (place : ℕ) → sibling place < length nodes →
    beside nodes place ≡ get_or nodes (sibling place) []
beside_paired nodes place paired = cond-true (nat_lt (sibling place) (length nodes)) (get_or nodes (sibling place) [])
    [] (lt-ltb (sibling place) (length nodes) paired)

beside_alone : (nodes : List (List ℕ)) (place : ℕ) → length nodes ≤ sibling place → beside nodes place ≡ []
beside_alone nodes place alone = cond-false (nat_lt (sibling place) (length nodes)) (get_or nodes (sibling place) [])
    [] (le-ltb (sibling place) (length nodes) alone)

step_paired : (n count place : ℕ) (here path hash rest : List ℕ) → sibling place < count →
    path ≡ hash ++ rest → length hash ≡ 32
    → led_to (suc n) count place here path ≡ led_to n ((count + 1) / 2) (place / 2) (parent_hash place here hash) rest
step_paired n count place here path hash rest paired e len =
    let up = led_to n ((count + 1) / 2) (place / 2) (parent_hash place here (take 32 path)) (drop 32 path) in
    let straight = led_to n ((count + 1) / 2) (place / 2) here path in
    let enough : 32 ≤ length path = omega (arith, ap length e, length-append hash rest) in
    cond-true (nat_lt (sibling place) count) (if nat_le 32 (length path) then up else None) straight
    (lt-ltb (sibling place) count paired)
    ∙ cond-true (nat_le 32 (length path)) up None (le-leb 32 (length path) enough)
    ∙ ap (λ h. led_to n ((count + 1) / 2) (place / 2) (parent_hash place here h) (drop 32 path))
    (ap (take 32) e ∙ take_at hash rest 32 len)
    ∙ ap (λ r. led_to n ((count + 1) / 2) (place / 2) (parent_hash place here hash) r)
    (ap (drop 32) e ∙ drop_at hash rest 32 len)

step_alone : (n count place : ℕ) (here path : List ℕ) → count ≤ sibling place
    → led_to (suc n) count place here path ≡ led_to n ((count + 1) / 2) (place / 2) here path
step_alone n count place here path alone =
    let up = led_to n ((count + 1) / 2) (place / 2) (parent_hash place here (take 32 path)) (drop 32 path) in
    let straight = led_to n ((count + 1) / 2) (place / 2) here path in
    cond-false (nat_lt (sibling place) count) (if nat_le 32 (length path) then up else None) straight
    (le-ltb (sibling place) count alone)

-- the path of a place leads to the node above it
leads_up : (n : ℕ) (nodes : List (List ℕ)) (place : ℕ) → AreHashes nodes → place < length nodes
    → led_to n (length nodes) place (get_or nodes place []) (path_up n nodes place) ≡ Some
    (get_or (raised n nodes) (halved n place) [])
unfolding halved
leads_up zero nodes place all inside = refl
leads_up (suc n) nodes place all inside =
    let above = level_above nodes in
    let rest = path_up n above (place / 2) in
    let len = length-above nodes in
    let up = leads_up n above (place / 2) (AreHashes-above nodes all) (omega arith) in
    elim (cases_lt (sibling place) (length nodes)) [
      | inl paired ↦
          let hash = get_or nodes (sibling place) [] in
          let path : path_up (suc n) nodes place ≡ hash ++ rest =
          ap (λ h. h ++ rest) (beside_paired nodes place paired) in
          step_paired n (length nodes) place (get_or nodes place []) (path_up (suc n) nodes place)
          hash rest paired path (hash_at nodes (sibling place) all paired)
          ∙ ap (λ (count : ℕ). led_to n count (place / 2) (parent_hash place (get_or nodes place []) hash) rest)
          (sym len)
          ∙ ap (λ here. led_to n (length above) (place / 2) here rest) (sym (parent_above nodes place inside paired))
          ∙ up
      | inr alone ↦
          let path : path_up (suc n) nodes place ≡ rest = ap (λ h. h ++ rest) (beside_alone nodes place alone) in
          step_alone n (length nodes) place (get_or nodes place []) (path_up (suc n) nodes place) alone
          ∙ ap (λ p. led_to n ((length nodes + 1) / 2) (place / 2) (get_or nodes place []) p) path
          ∙ ap (λ (count : ℕ). led_to n count (place / 2) (get_or nodes place []) rest) (sym len)
          ∙ ap (λ here. led_to n (length above) (place / 2) here rest) (sym (last_above nodes place inside alone))
          ∙ up
    ]

halved_out : (place : ℕ) → place < 32 → halved 5 place ≡ 0
unfolding halved
halved_out place few = omega arith

-- the path of a leaf leads to the root
pub leads_to_root : (leaves : List (List ℕ)) (place : ℕ) → AreHashes leaves → place < length leaves → length leaves ≤ 32
    → led_to most_levels (length leaves) place (get_or leaves place []) (path_of leaves place) ≡ Some (root_of leaves)
unfolding most_levels root_of path_of
leads_to_root leaves place all inside few =
    leads_up 5 leaves place all inside ∙ ap (λ (k : ℕ). Some (get_or (raised 5 leaves) k []))
    (halved_out place (omega arith))

-- a path is some hashes, at most one a level
pub path_size : (n : ℕ) (nodes : List (List ℕ)) (place : ℕ) → AreHashes nodes
    → (hashes : ℕ) × (hashes ≤ n) × (length (path_up n nodes place) ≡ 32 * hashes)
path_size zero nodes place all = (0, omega arith, refl)
path_size (suc n) nodes place all =
    let (hashes, few, size) = path_size n (level_above nodes) (place / 2) (AreHashes-above nodes all) in
    let rest = path_up n (level_above nodes) (place / 2) in
    elim (cases_lt (sibling place) (length nodes)) [
      | inl paired ↦
          let one = hash_at nodes (sibling place) all paired in
          let both = ap length (ap (λ h. h ++ rest) (beside_paired nodes place paired))
          ∙ length-append (get_or nodes (sibling place) []) rest in
          (suc hashes, omega arith, omega arith)
      | inr alone ↦
          let both = ap length (ap (λ h. h ++ rest) (beside_alone nodes place alone)) in
          (hashes, omega arith, both ∙ size)
    ]

-- a path through the kept levels is that of the tree
pub path_through_levels : (n : ℕ) (nodes : List (List ℕ)) (place : ℕ) →
    path_through (levels_up n nodes) place ≡ path_up n nodes place
path_through_levels zero nodes place = refl
path_through_levels (suc n) nodes place =
    ap (λ rest. beside nodes place ++ rest) (path_through_levels n (level_above nodes) (place / 2))

-- a level above some nodes has some
above_some : (nodes : List (List ℕ)) → 1 ≤ length nodes → 1 ≤ length (level_above nodes)
above_some nodes some = let len = length-above nodes in omega arith

pub raised_some : (n : ℕ) (nodes : List (List ℕ)) → 1 ≤ length nodes → 1 ≤ length (raised n nodes)
raised_some zero nodes some = some
raised_some (suc n) nodes some = raised_some n (level_above nodes) (above_some nodes some)
