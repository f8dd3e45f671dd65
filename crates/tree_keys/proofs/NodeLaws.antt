-- The nodes of a tree.
use Rattle.std.proofs.Common.{◌≡◌, ◌≤◌, ◌<◌, ◌^◌, ◌+◌, ◌-◌, ◌*◌, ◌/◌, ◌%◌, ◌++◌, ℕ, zero, suc, List, [], ◌∷◌, length, refl, sym}
use Rattle.std.proofs.Common.{ap, ◌∙◌, arith, inl, inr, get_or, length-append, nat_le, true, false, if◌then◌else◌}
use Rattle.std.proofs.lemmas.Bool.{cases_lt, le-leb, lt-leb}
use Rattle.std.proofs.Math.Nat.{pow-succ', pow-le-pow_right, one-le-pow, le-div_iff_mul-le}
use Rattle.std.proofs.lemmas.List.{get_or_append_left}
use Rattle.std.proofs.Math.Seq.{get_or-append_seam}
use Rattle.ots_keys.proofs.Laws.{length-hash_under}
use Rattle.tree_keys.specs.Trees.{IsMadeHeight}
use Rattle.tree_keys.specs.Nodes.{TreeSeed, node, node_within, leaf_of, inner_hash, stored}

node_within-leaf : (tree : TreeSeed) (n r : ℕ) → 2 ^ tree.height ≤ r → node_within tree n r ≡ leaf_of tree r
node_within-leaf tree zero r h = refl
node_within-leaf tree (suc n) r h = rw (le-leb (2 ^ tree.height) r h) refl

node_within-inner : (tree : TreeSeed) (n r : ℕ) → r < 2 ^ tree.height
    → node_within tree (suc n) r ≡ inner_hash tree.id r (node_within tree n (2 * r)) (node_within tree n (2 * r + 1))
node_within-inner tree n r h = rw (lt-leb (2 ^ tree.height) r h) refl

double_left : (r p : ℕ) → r * (2 * p) ≡ 2 * r * p
double_left r p = grind arith

more_left : (r p : ℕ) → r * p ≤ (r + 1) * p
more_left r p = grind arith

-- where n levels are enough, so are n + 1
node_within-more : (tree : TreeSeed) (n r : ℕ) → 2 ^ tree.height ≤ r * 2 ^ n →
    node_within tree n r ≡ node_within tree (suc n) r
node_within-more tree zero r h = sym (node_within-leaf tree 1 r (omega arith))
node_within-more tree (suc n) r h = elim (cases_lt r (2 ^ tree.height)) [
  | inl inner ↦
      let double = ap (λ (p : ℕ). r * p) (pow-succ' 2 n) ∙ double_left r (2 ^ n) in
      let wider = more_left (2 * r) (2 ^ n) in
      let left = node_within-more tree n (2 * r) (omega arith) in
      let right = node_within-more tree n (2 * r + 1) (omega arith) in
      node_within-inner tree n r inner
      ∙ ap (λ x. inner_hash tree.id r x (node_within tree n (2 * r + 1))) left
      ∙ ap (inner_hash tree.id r (node_within tree (suc n) (2 * r))) right
      ∙ sym (node_within-inner tree (suc n) r inner)
  | inr leaf ↦ node_within-leaf tree (suc n) r leaf ∙ sym (node_within-leaf tree (suc (suc n)) r leaf)
]

more_leaves : (r p : ℕ) → 1 ≤ r → p ≤ r * p
more_leaves r p h = grind arith

length-node_within : (tree : TreeSeed) (n r : ℕ) → length (node_within tree n r) ≡ 32
length-node_within tree zero r = length-hash_under _ _ _ _
length-node_within tree (suc n) r = elim (nat_le (2 ^ tree.height) r) as (λ b.
    length (if b then leaf_of tree r else inner_hash tree.id r (node_within tree n (2 * r))
    (node_within tree n (2 * r + 1))) ≡ 32) [
      | true ↦ length-hash_under _ _ _ _
      | false ↦ length-hash_under _ _ _ _
    ]

-- T[r] of a leaf
pub node-leaf : (tree : TreeSeed) (r : ℕ) → 2 ^ tree.height ≤ r → node tree r ≡ leaf_of tree r
unfolding node
node-leaf tree r h = node_within-leaf tree tree.height r h

-- T[r] of an inner node
pub node-inner : (tree : TreeSeed) (r : ℕ) → 1 ≤ r → r < 2 ^ tree.height
    → node tree r ≡ inner_hash tree.id r (node tree (2 * r)) (node tree (2 * r + 1))
unfolding node
node-inner tree r low h =
    let enough = more_leaves r (2 ^ tree.height) low in
    let left = more_leaves (2 * r) (2 ^ tree.height) (omega arith) in
    node_within-more tree tree.height r enough ∙ node_within-inner tree tree.height r h

pub length-node : (tree : TreeSeed) (r : ℕ) → length (node tree r) ≡ 32
unfolding node
length-node tree r = length-node_within tree tree.height r

-- what stands among the stored nodes
pub length-stored : (tree : TreeSeed) (n : ℕ) → length (stored tree n) ≡ n
length-stored tree zero = refl
length-stored tree (suc n) = let before = length-stored tree n in
    omega (arith, before, length-append (stored tree n) (node tree (2 * 2 ^ tree.height - 1 - n) ∷ []))

-- one node more is stored
pub stored_more : (tree : TreeSeed) (n more r : ℕ) (nodes later : List (List ℕ)) (x : List ℕ) → nodes ≡ stored tree n
    → x ≡ node tree r → 2 * 2 ^ tree.height - 1 - n ≡ r → more ≡ n + 1 → later ≡ nodes ++ x ∷ [] → later ≡ stored tree more
stored_more tree n more r nodes later x held made at count pushed =
    let one : more ≡ suc n = omega arith in
    pushed ∙ ap (λ xs. xs ++ x ∷ []) held
    ∙ ap (λ y. stored tree n ++ y ∷ []) (made ∙ ap (node tree) (sym at))
    ∙ ap (stored tree) (sym one)

pub stored-at : (tree : TreeSeed) (n i : ℕ) (d : List ℕ) → i < n →
    get_or (stored tree n) i d ≡ node tree (2 * 2 ^ tree.height - 1 - i)
stored-at tree zero i d h = absurd (omega arith)
stored-at tree (suc n) i d h =
    let len = length-stored tree n in
    elim (cases_lt i n) [
      | inl before ↦ get_or_append_left (stored tree n) (node tree (2 * 2 ^ tree.height - 1 - n) ∷ []) d i
          (omega arith) ∙ stored-at tree n i d before
      | inr last ↦
          let e : i ≡ length (stored tree n) = omega arith in
          let k : n ≡ i = omega arith in
          ap (λ (j : ℕ). get_or (stored tree (suc n)) j d) e
          ∙ get_or-append_seam (stored tree n) (node tree (2 * 2 ^ tree.height - 1 - n)) [] d
          ∙ ap (λ (j : ℕ). node tree (2 * 2 ^ tree.height - 1 - j)) k
    ]

-- the node that stands at a place among all stored nodes
pub stored-node : (tree : TreeSeed) (n i r : ℕ) (nodes : List (List ℕ)) (d : List ℕ) → nodes ≡ stored tree n → i < n
    → 2 * 2 ^ tree.height - 1 - i ≡ r → get_or nodes i d ≡ node tree r
stored-node tree n i r nodes d e inside at =
    ap (λ xs. get_or xs i d) e ∙ stored-at tree n i d inside ∙ ap (node tree) at

-- a node below the root has two levels' nodes or more above it
pub below_root : (height q level : ℕ) → level < height → 2 ≤ (2 ^ height + q) / 2 ^ level
below_root height q level h =
    let up : 2 ^ suc level ≤ 2 ^ height = pow-le-pow_right {n = 2} (omega arith) {i = suc level} {j = height} h in
    let some : zero < 2 ^ level = let p = one-le-pow level 2 (omega arith) in omega arith in
    let twice = pow-succ' 2 level in
    (le-div_iff_mul-le {k = 2 ^ level} {x = 2} {y = 2 ^ height + q} some).1 (omega arith)

-- trees that are made have eight leaves or a multiple of them
pub eights : (height : ℕ) → IsMadeHeight height → 2 ^ height % 8 ≡ 0
eights height made = elim made [
  | inl e ↦ rw e refl
  | inr e ↦ rw e refl
]
