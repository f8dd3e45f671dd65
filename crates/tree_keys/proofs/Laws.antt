-- What a tree signs, its public key verifies (RFC 8554, section 5.4).
use Rattle.std.proofs.Common.{◌≡◌, ◌≤◌, ◌<◌, ◌^◌, ◌+◌, ◌-◌, ◌*◌, ◌/◌, ◌%◌, ◌==◌, ℕ, zero, suc, List, ◌++◌, length}
use Rattle.std.proofs.Common.{true, false, refl, sym, ap, ◌∙◌, arith, inl, inr, eq-eqb, length-append}
use Rattle.wire_parts.specs.Fields.{u32_bytes}
use Rattle.wire_parts.specs.FieldLaws.{length-u32_bytes}
use Rattle.ots_keys.specs.Parameters.{type_code}
use Rattle.std.proofs.lemmas.Bool.{cases_lt}
use Rattle.std.proofs.lemmas.Nat.{div-mul-add}
use Rattle.std.proofs.Math.Nat.{pow-suc, div-div-eq-div-mul, div-one, div-le_self}
use Rattle.ots_keys.specs.Keys.{joined, signature, public_key}
use Rattle.ots_keys.proofs.Laws.{joined-at, length-joined, candidate-signature, signature_form}
use Rattle.tree_keys.specs.declared.public_key.PublicKey.{PublicKey}
use Rattle.tree_keys.specs.Nodes.{TreeSeed, node, leaf_hash, inner_hash, parent_hash, path_at, climbed, sibling}
use Rattle.tree_keys.specs.PublicKeys.{IsTreeHeight, tree_code, IsSignedUnder, TreeVerifies}
use Rattle.tree_keys.specs.Trees.{tree_public, tree_signature, path_node, IsMadeHeight}
use Rattle.tree_keys.proofs.NodeLaws.{node-leaf, node-inner, length-node, below_root}

-- the parent of node x, from that node and its sibling
parent_is : (tree : TreeSeed) (x : ℕ) → 2 ≤ x → x < 2 * 2 ^ tree.height
    → parent_hash tree.id x (node tree x) (node tree (sibling x)) ≡ node tree (x / 2)
parent_is tree x low high = elim (cases_lt (x % 2) 1) [
  | inl even ↦
      let none : x % 2 ≡ 0 = omega arith in
      let test : (x % 2 == 1) ≡ false = rw none refl in
      let left : x ≡ 2 * (x / 2) = omega arith in
      let right : x + 1 ≡ 2 * (x / 2) + 1 = omega arith in
      rw (test) (ap (λ (n : ℕ). inner_hash tree.id (x / 2) (node tree n) (node tree (x + 1))) left
      ∙ ap (λ (n : ℕ). inner_hash tree.id (x / 2) (node tree (2 * (x / 2))) (node tree n)) right
      ∙ sym (node-inner tree (x / 2) (omega arith) (omega arith)))
  | inr odd ↦
      let one : x % 2 ≡ 1 = omega arith in
      let test : (x % 2 == 1) ≡ true = eq-eqb (x % 2) 1 one in
      let right : x ≡ 2 * (x / 2) + 1 = omega arith in
      let left : x - 1 ≡ 2 * (x / 2) = omega arith in
      rw (test) (ap (λ (n : ℕ). inner_hash tree.id (x / 2) (node tree n) (node tree x)) left
      ∙ ap (λ (n : ℕ). inner_hash tree.id (x / 2) (node tree (2 * (x / 2))) (node tree n)) right
      ∙ sym (node-inner tree (x / 2) (omega arith) (omega arith)))
]

-- the hash i levels above leaf q, by the siblings' path, is the node's that stands there
climbed_is : (tree : TreeSeed) (q : ℕ) (path leaf : List ℕ) (i : ℕ) → q < 2 ^ tree.height → i ≤ tree.height
    → leaf ≡ node tree (2 ^ tree.height + q)
    → ((k : ℕ) → k < tree.height → path_at path k ≡ path_node tree q k)
    → climbed tree.id path (2 ^ tree.height + q) leaf i ≡ node tree ((2 ^ tree.height + q) / 2 ^ i)
climbed_is tree q path leaf zero leaf_fits level e siblings =
    e ∙ ap (node tree) (sym (div-one (2 ^ tree.height + q)))
climbed_is tree q path leaf (suc i) leaf_fits level e siblings =
    let r = 2 ^ tree.height + q in
    let x = r / 2 ^ i in
    let below = div-le_self r (2 ^ i) in
    let here = climbed_is tree q path leaf i leaf_fits (omega arith) e siblings in
    let beside = siblings i (omega arith) in
    let up : x / 2 ≡ r / 2 ^ suc i = div-div-eq-div-mul r (2 ^ i) 2 ∙ ap (λ (p : ℕ). r / p) (sym (pow-suc 2 i)) in
    ap (λ a. parent_hash tree.id x a (path_at path i)) here
    ∙ ap (parent_hash tree.id x (node tree x)) beside
    ∙ parent_is tree x (below_root tree.height q i (omega arith)) (omega arith)
    ∙ ap (node tree) up

-- the public key of a tree, as a value
key_of_tree : TreeSeed → PublicKey
key_of_tree tree = record { height = tree.height; ots = tree.ots; id = tree.id; root = node tree 1 }

signed_by_tree : (tree : TreeSeed) (q : ℕ) (message : List ℕ) → q < 2 ^ tree.height
    → IsSignedUnder (key_of_tree tree) message (tree_signature tree q message)
unfolding tree_signature key_of_tree
signed_by_tree tree q message fits =
    let r = 2 ^ tree.height + q in
    let path = joined (path_node tree q) tree.height in
    let ots_sig = signature tree.ots tree.id q tree.seed message in
    let pieces = λ (k : ℕ). length-node tree (sibling (r / 2 ^ k)) in
    let key_is = candidate-signature tree.ots tree.id q tree.seed message in
    let number : q ≡ r - 2 ^ tree.height = omega arith in
    let leaf = ap (leaf_hash tree.id r) (key_is ∙ ap (λ (n : ℕ). public_key tree.ots tree.id n tree.seed) number)
    ∙ sym (node-leaf tree r (omega arith)) in
    let one : r / 2 ^ tree.height ≡ 1 = let e : r ≡ 1 * 2 ^ tree.height + q = omega arith in
    ap (λ (n : ℕ). n / 2 ^ tree.height) e ∙ div-mul-add 1 (2 ^ tree.height) q fits in
    record {
      q = q;
      ots_sig = ots_sig;
      path = path;
      spelled = refl;
      leaf = fits;
      levels = length-joined (path_node tree q) pieces tree.height;
      leads = record {
        form = signature_form tree.ots tree.id q tree.seed message;
        root = climbed_is tree q path _ tree.height fits (omega arith) leaf
            (λ k level. joined-at (path_node tree q) pieces tree.height k level)
            ∙ ap (node tree) one;
      };
    }

-- what a tree signs, its public key verifies
pub tree_verifies : (tree : TreeSeed) (q : ℕ) (message : List ℕ) → IsTreeHeight tree.height → length tree.id ≡ 16
    → q < 2 ^ tree.height → TreeVerifies (tree_public tree) message (tree_signature tree q message)
unfolding tree_public key_of_tree
tree_verifies tree q message height id fits = (
  key_of_tree tree,
  record { spelled = refl; height = height; id = id; root = length-node tree 1 },
  signed_by_tree tree q message fits,
)

-- a made height is one of the RFC's
pub is_tree_height : (height : ℕ) → IsMadeHeight height → IsTreeHeight height
is_tree_height height (inl e) = (0, lt_five, sym e)
  where
    lt_five : 0 < 5
    lt_five = omega arith
is_tree_height height (inr e) = (1, lt_five, sym e)
  where
    lt_five : 1 < 5
    lt_five = omega arith

-- the lengths of keys and signatures
pub length-tree_public : (tree : TreeSeed) → length tree.id ≡ 16 → length (tree_public tree) ≡ 56
unfolding tree_public
length-tree_public tree id =
    let a = u32_bytes (tree_code tree.height) in
    let b = u32_bytes (type_code tree.ots) in
    let root = length-node tree 1 in
    omega (
      arith,
      length-append (a ++ b ++ tree.id) (node tree 1),
      length-append (a ++ b) tree.id,
      length-append a b,
      length-u32_bytes (tree_code tree.height),
      length-u32_bytes (type_code tree.ots),
    )
