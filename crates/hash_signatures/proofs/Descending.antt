-- One level of the way down, and the levels below it.
use Rattle.std.proofs.Common.{◌≡◌, ◌≤◌, ◌/◌, ◌%◌, ◌^◌, ℕ, suc, List, ◌∷◌, ◌++◌, refl, sym, ap, ◌∙◌, subst, arith}
use Rattle.std.proofs.Common.{IfOk, Result, append_assoc}
use Rattle.std.specs.Prelude.{All}
use Rattle.plain_lists.specs.declared.want.Want.{Want}
use Rattle.tree_keys.specs.Nodes.{TreeSeed}
use Rattle.tree_keys.specs.Trees.{IsMadeHeight}
use Rattle.hash_signatures.specs.declared.descent.Way.{Way}
use Rattle.hash_signatures.specs.Signatures.{total, child_tree, leaf_at, signed_key}
use Rattle.hash_signatures.specs.Descent.{front_below, bottom_below}

pub rest_total : (lower : List ℕ) (h : ℕ) (rest : List ℕ) → lower ≡ h ∷ rest → total lower ≤ 60 → total rest ≤ 60
rest_total lower h rest e few = let same = ap total e in omega arith

pub rest_heights : (lower : List ℕ) (h : ℕ) (rest : List ℕ) → lower ≡ h ∷ rest → All IsMadeHeight lower →
    All IsMadeHeight rest
rest_heights lower h rest e made = λ k d inside.
    let all : All IsMadeHeight (h ∷ rest) = subst (All IsMadeHeight) e made in
    all (suc k) d (omega arith)

pub first_height : (lower : List ℕ) (h : ℕ) (rest : List ℕ) → lower ≡ h ∷ rest → All IsMadeHeight lower → IsMadeHeight h
first_height lower h rest e made =
    let all : All IsMadeHeight (h ∷ rest) = subst (All IsMadeHeight) e made in
    all 0 0 (omega arith)

pub child_height : (tree : TreeSeed) (h q : ℕ) → (child_tree tree h q).height ≡ h
unfolding child_tree
child_height tree h q = refl

pub next_height : (tree next : TreeSeed) (h q : ℕ) → next ≡ child_tree tree h q → IsMadeHeight h →
    IsMadeHeight next.height
next_height tree next h q e made =
    subst IsMadeHeight (sym (ap (λ (t : TreeSeed). t.height) e ∙ child_height tree h q)) made

pub leaf_is : (tree : TreeSeed) (lower : List ℕ) (m height q : ℕ) → height ≡ tree.height →
    q ≡ m / 2 ^ total lower % 2 ^ height → q ≡ leaf_at tree lower m
unfolding leaf_at
leaf_is tree lower m height q e f = f ∙ ap (λ (h : ℕ). m / 2 ^ total lower % 2 ^ h) e

pub lowest_is : (tree next : TreeSeed) (lower : List ℕ) (h : ℕ) (rest : List ℕ) (m height q : ℕ) → lower ≡ h ∷ rest
    → height ≡ tree.height → q ≡ m / 2 ^ total lower % 2 ^ height → next ≡ child_tree tree h q
    → bottom_below next rest m ≡ bottom_below tree lower m
lowest_is tree next lower h rest m height q e e_height e_q e_next =
    let leaf = leaf_is tree lower m height q e_height e_q ∙ ap (λ (l : List ℕ). leaf_at tree l m) e in
    ap (λ (t : TreeSeed). bottom_below t rest m) (e_next ∙ ap (child_tree tree h) leaf)
    ∙ ap (λ (l : List ℕ). bottom_below tree l m) (sym e)

pub front_is : (tree next : TreeSeed) (lower : List ℕ) (h : ℕ) (rest : List ℕ) (m height q : ℕ) (front old : List ℕ) →
    lower ≡ h ∷ rest
    → height ≡ tree.height → q ≡ m / 2 ^ total lower % 2 ^ height → next ≡ child_tree tree h q
    → front ≡ old ++ signed_key tree h q
    → front ++ front_below next rest m ≡ old ++ front_below tree lower m
front_is tree next lower h rest m height q front old e e_height e_q e_next e_front =
    let leaf = leaf_is tree lower m height q e_height e_q ∙ ap (λ (l : List ℕ). leaf_at tree l m) e in
    ap (λ x. x ++ front_below next rest m) (e_front ∙ ap (λ (k : ℕ). old ++ signed_key tree h k) leaf)
    ∙ ap (λ (t : TreeSeed). (old ++ signed_key tree h (leaf_at tree (h ∷ rest) m)) ++ front_below t rest m)
    (e_next ∙ ap (child_tree tree h) leaf)
    ∙ append_assoc old (signed_key tree h (leaf_at tree (h ∷ rest) m))
    (front_below (child_tree tree h (leaf_at tree (h ∷ rest) m)) rest m)
    ∙ ap (λ (l : List ℕ). old ++ front_below tree l m) (sym e)

-- what holds of the way that the levels below give holds of the whole
pub lowest_ok : (r : Result Way Want) (x y : TreeSeed) → x ≡ y → IfOk r (λ done. done.lowest ≡ x) →
    IfOk r (λ done. done.lowest ≡ y)
lowest_ok r x y e h = subst (λ z. IfOk r (λ done. done.lowest ≡ z)) e h

pub front_ok : (r : Result Way Want) (x y : List ℕ) → x ≡ y → IfOk r (λ done. done.front.items ≡ x) →
    IfOk r (λ done. done.front.items ≡ y)
front_ok r x y e h = subst (λ z. IfOk r (λ done. done.front.items ≡ z)) e h
