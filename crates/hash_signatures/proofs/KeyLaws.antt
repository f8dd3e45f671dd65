-- What a key signs, its public key verifies, and what a way leads to.
use Rattle.std.proofs.Common.{◌≡◌, ◌≤◌, ◌<◌, ◌+◌, ◌-◌, ◌*◌, ◌/◌, ◌%◌, ◌^◌, ℕ, suc, List, [], ◌∷◌, ◌++◌, length, refl}
use Rattle.std.proofs.Common.{sym, ap, ◌∙◌, subst, arith, IfOk, Result, Ok, Err, append_assoc, length-append, inl}
use Rattle.std.proofs.Common.{inr, Vec, Global}
use Rattle.std.proofs.lemmas.List.{length-take-le}
use Rattle.std.proofs.Math.Nat.{mod-lt, one-le-pow, pow-le-pow_right, mod-eq_of_lt, div-div-eq-div-mul}
use Rattle.std.proofs.lemmas.Nat.{pow-add}
use Rattle.plain_lists.specs.declared.want.Want.{Want}
use Rattle.wire_parts.specs.Fields.{u8_bytes, u32_bytes}
use Rattle.ots_keys.proofs.Laws.{length-hash_under}
use Rattle.tree_keys.specs.Nodes.{TreeSeed}
use Rattle.tree_keys.specs.Trees.{IsMadeHeight, tree_public, tree_signature}
use Rattle.tree_keys.proofs.Laws.{tree_verifies, is_tree_height}
use Rattle.hash_signatures.specs.declared.descent.Way.{Way}
use Rattle.hash_signatures.specs.Verification.{LeadsThrough, Verifies}
use Rattle.hash_signatures.specs.Signatures.{Key, total, child_tree, child_id_tag, leaf_at, signed_key, signed_below}
use Rattle.hash_signatures.specs.Signatures.{top_tree, public_of, key_public, signature_of, signature_at}
use Rattle.hash_signatures.specs.Signatures.{longest_signature}
use Rattle.hash_signatures.specs.State.{IsLevelCount, HasMadeHeights}
use Rattle.hash_signatures.specs.Descent.{front_below, bottom_below}
use Rattle.hash_signatures.specs.Path.{front_of, bottom_of, IsWayOf}
use Rattle.wire_parts.specs.FieldLaws.{length-u32_bytes}
use Rattle.hash_signatures.proofs.Descending.{child_height}
use Rattle.hash_signatures.proofs.LeadLaws.{lead_len}

first_made : (h : ℕ) (hs : List ℕ) → HasMadeHeights (h ∷ hs) → IsMadeHeight h
first_made h hs made = made 0 0 (omega arith)

rest_made : (h : ℕ) (hs : List ℕ) → HasMadeHeights (h ∷ hs) → HasMadeHeights hs
rest_made h hs made = λ k d inside. made (suc k) d (omega arith)

made_le_ten : (h : ℕ) → IsMadeHeight h → h ≤ 10
made_le_ten h (inl e) = omega arith
made_le_ten h (inr e) = omega arith

-- heights of at most ten a level
total_le : (hs : List ℕ) → HasMadeHeights hs → total hs ≤ 10 * length hs
total_le [] made = omega arith
total_le (h ∷ hs) made =
    let first = made_le_ten h (first_made h hs made) in
    let rest = total_le hs (rest_made h hs made) in
    omega arith

pub total_le_sixty : (hs : List ℕ) → IsLevelCount (length hs) → HasMadeHeights hs → total hs ≤ 60
total_le_sixty hs levels made = let all = total_le hs made in let most = levels.1 in omega arith

pub leaves_fit : (t : ℕ) → t ≤ 60 → 1 * 2 ^ t % 2 ^ 64 ≡ 2 ^ t
leaves_fit t h =
    let top : 2 ^ t ≤ 2 ^ 60 = pow-le-pow_right {n = 2} (omega arith) {i = t} {j = 60} h in
    let fits : 1 * 2 ^ t < 2 ^ 64 = omega arith in
    let one : 1 * 2 ^ t ≡ 2 ^ t = omega arith in
    rw (mod-eq_of_lt fits, one) refl

leaf_at-lt : (tree : TreeSeed) (lower : List ℕ) (m : ℕ) → leaf_at tree lower m < 2 ^ tree.height
unfolding leaf_at
leaf_at-lt tree lower m = let some = one-le-pow tree.height 2 (omega arith) in
    mod-lt (m / 2 ^ total lower) (omega arith)

child_id_len : (tree : TreeSeed) (h q : ℕ) → length (child_tree tree h q).id ≡ 16
unfolding child_tree
child_id_len tree h q = length-take-le 16 _
    (let len = length-hash_under tree.id q child_id_tag (u8_bytes 0xff ++ tree.seed) in omega arith)

-- the signed keys lead from the tree's public key to the message
leads_below : (tree : TreeSeed) (hs : List ℕ) (m : ℕ) (message : List ℕ) → IsMadeHeight tree.height →
    HasMadeHeights hs → length tree.id ≡ 16
    → LeadsThrough (length hs) (tree_public tree) message (signed_below tree hs m message)
leads_below tree [] m message height made id =
    tree_verifies tree (leaf_at tree [] m) message (is_tree_height tree.height height) id (leaf_at-lt tree [] m)
leads_below tree (h ∷ hs) m message height made id =
    let q = leaf_at tree (h ∷ hs) m in
    let next = child_tree tree h q in
    let below = leads_below next hs m message
    (subst IsMadeHeight (sym (child_height tree h q)) (first_made h hs made)) (rest_made h hs made)
    (child_id_len tree h q) in (
      tree_signature tree q (tree_public next),
      tree_public next,
      signed_below next hs m message,
      refl,
      tree_verifies tree q (tree_public next) (is_tree_height tree.height height) id (leaf_at-lt tree (h ∷ hs) m),
      below,
    )

verifies_of : (key : Key) (hs : List ℕ) (m : ℕ) (message : List ℕ) → IsLevelCount (length hs) →
    HasMadeHeights hs → length key.id ≡ 16
    → Verifies (public_of key hs) message (signature_of key hs m message)
verifies_of key [] m message levels made id = let low = levels.0 in absurd (omega arith)
verifies_of key (h ∷ hs) m message levels made id =
    let one : length (h ∷ hs) - 1 ≡ length hs = omega arith in
    record {
      levels = length (h ∷ hs);
      key = tree_public (top_tree key h);
      rest = signed_below (top_tree key h) hs m message;
      low = levels.0;
      high = let high = levels.1 in omega arith;
      public_bytes = refl;
      sig_bytes = ap (λ (n : ℕ). u32_bytes n ++ signed_below (top_tree key h) hs m message) (sym one);
      leads = subst (λ (n : ℕ). LeadsThrough n (tree_public (top_tree key h)) message
          (signed_below (top_tree key h) hs m message)) (sym one)
          (leads_below (top_tree key h) hs m message (first_made h hs made) (rest_made h hs made) id);
    }

-- each signature of a key verifies under its public key
pub signature_verifies : (key : Key) (m : ℕ) (message : List ℕ) → IsLevelCount (length key.heights) →
    HasMadeHeights key.heights
    → length key.id ≡ 16 → Verifies (key_public key) message (signature_at key m message)
unfolding key_public signature_at
signature_verifies key m message levels made id = verifies_of key key.heights m message levels made id

short_of : (key : Key) (hs : List ℕ) (m : ℕ) (message : List ℕ) → IsLevelCount (length hs) →
    HasMadeHeights hs → length key.id ≡ 16
    → length (signature_of key hs m message) ≤ longest_signature
unfolding longest_signature
short_of key [] m message levels made id = let low = levels.0 in absurd (omega arith)
short_of key (h ∷ hs) m message levels made id =
    let high = levels.1 in
    let below = lead_len (length hs) (tree_public (top_tree key h)) message (signed_below (top_tree key h) hs m message)
    (leads_below (top_tree key h) hs m message (first_made h hs made) (rest_made h hs made) id) in
    omega (
      arith,
      length-append (u32_bytes (length hs)) (signed_below (top_tree key h) hs m message),
      length-u32_bytes (length hs),
    )

-- each signature of a key is short
pub signature_short : (key : Key) (m : ℕ) (message : List ℕ) → IsLevelCount (length key.heights) →
    HasMadeHeights key.heights
    → length key.id ≡ 16 → length (signature_at key m message) ≤ longest_signature
unfolding signature_at
signature_short key m message levels made id = short_of key key.heights m message levels made id

-- a signature is its signed keys and the LMS signature of the lowest tree
below_is : (tree : TreeSeed) (hs : List ℕ) (m : ℕ) (message : List ℕ)
    → front_below tree hs m ++ tree_signature (bottom_below tree hs m) (leaf_at (bottom_below tree hs m) [] m)
    message ≡ signed_below tree hs m message
below_is tree [] m message = refl
below_is tree (h ∷ hs) m message =
    let q = leaf_at tree (h ∷ hs) m in
    let next = child_tree tree h q in
    append_assoc (signed_key tree h q) (front_below next hs m)
    (tree_signature (bottom_below next hs m) (leaf_at (bottom_below next hs m) [] m) message)
    ∙ ap (λ x. signed_key tree h q ++ x) (below_is next hs m message)

whole_is : (key : Key) (hs : List ℕ) (m : ℕ) (message : List ℕ) → 1 ≤ length hs
    → front_of key hs m ++ tree_signature (bottom_of key hs m) (leaf_at (bottom_of key hs m) [] m)
    message ≡ signature_of key hs m message
whole_is key [] m message some = absurd (omega arith)
whole_is key (h ∷ hs) m message some =
    append_assoc (u32_bytes (length hs)) _ _ ∙ ap (λ x. u32_bytes (length hs) ++ x)
    (below_is (top_tree key h) hs m message)

pub way_signs : (key : Key) (m : ℕ) (message : List ℕ) (way : Way) → 1 ≤ length key.heights → IsWayOf key m way
    → way.front.items ++ tree_signature way.lowest (leaf_at way.lowest [] m) message ≡ signature_at key m message
unfolding signature_at
way_signs key m message way some leads =
    ap (λ x. x ++ tree_signature way.lowest (leaf_at way.lowest [] m) message) leads.front
    ∙ ap (λ (t : TreeSeed). front_of key key.heights m ++ tree_signature t (leaf_at t [] m) message) leads.lowest
    ∙ whole_is key key.heights m message some

-- the height of the lowest tree
last_height : ℕ → List ℕ → ℕ
last_height h [] = h
last_height h (x ∷ xs) = last_height x xs

bottom_height : (tree : TreeSeed) (hs : List ℕ) (m : ℕ) → (bottom_below tree hs m).height ≡ last_height tree.height hs
unfolding last_height
bottom_height tree [] m = refl
bottom_height tree (h ∷ hs) m =
    let q = leaf_at tree (h ∷ hs) m in
    bottom_height (child_tree tree h q) hs m ∙ ap (λ (x : ℕ). last_height x hs) (child_height tree h q)

last_le : (h : ℕ) (hs : List ℕ) → last_height h hs ≤ total (h ∷ hs)
unfolding last_height
last_le h [] = omega arith
last_le h (x ∷ xs) = let below = last_le x xs in omega arith

-- signatures of one lowest tree go through one leaf of each tree above
leaf_at-block : (tree : TreeSeed) (h : ℕ) (hs : List ℕ) (m n : ℕ) → m / 2 ^ last_height h hs ≡ n / 2 ^ last_height h hs
    → leaf_at tree (h ∷ hs) m ≡ leaf_at tree (h ∷ hs) n
unfolding leaf_at
leaf_at-block tree h hs m n e =
    let last = last_height h hs in
    let more = total (h ∷ hs) - last in
    let sum : total (h ∷ hs) ≡ last + more = omega (arith, last_le h hs) in
    let power : 2 ^ total (h ∷ hs) ≡ 2 ^ last * 2 ^ more = ap (λ (k : ℕ). 2 ^ k) sum ∙ pow-add 2 last more in
    let part = λ (k : ℕ). ap (λ (p : ℕ). k / p) power ∙ sym (div-div-eq-div-mul k (2 ^ last) (2 ^ more)) in
    ap (λ (k : ℕ). k % 2 ^ tree.height) (part m ∙ ap (λ (k : ℕ). k / 2 ^ more) e ∙ sym (part n))

same_below : (tree : TreeSeed) (hs : List ℕ) (m n : ℕ) →
    m / 2 ^ last_height tree.height hs ≡ n / 2 ^ last_height tree.height hs
    → (front_below tree hs m ≡ front_below tree hs n) × (bottom_below tree hs m ≡ bottom_below tree hs n)
unfolding last_height
same_below tree [] m n e = (refl, refl)
same_below tree (h ∷ hs) m n e =
    let q = leaf_at-block tree h hs m n e in
    let next = child_tree tree h (leaf_at tree (h ∷ hs) m) in
    let height = child_height tree h (leaf_at tree (h ∷ hs) m) in
    let at_next : m / 2 ^ last_height next.height hs ≡ n / 2 ^ last_height next.height hs =
    subst (λ (x : ℕ). m / 2 ^ last_height x hs ≡ n / 2 ^ last_height x hs) (sym height) e in
    let below = same_below next hs m n at_next in (
      ap (λ x. signed_key tree h (leaf_at tree (h ∷ hs) m) ++ x) below.0
          ∙ ap (λ (k : ℕ). signed_key tree h k ++ front_below (child_tree tree h k) hs n) q,
      below.1 ∙ ap (λ (k : ℕ). bottom_below (child_tree tree h k) hs n) q,
    )

same_of : (key : Key) (hs : List ℕ) (m n : ℕ) →
    m / 2 ^ (bottom_of key hs m).height ≡ n / 2 ^ (bottom_of key hs m).height
    → (front_of key hs m ≡ front_of key hs n) × (bottom_of key hs m ≡ bottom_of key hs n)
same_of key [] m n e = (refl, refl)
same_of key (h ∷ hs) m n e =
    let last = bottom_height (top_tree key h) hs m in
    let same = same_below (top_tree key h) hs m n (subst (λ (x : ℕ). m / 2 ^ x ≡ n / 2 ^ x) last e) in
    (ap (λ x. u32_bytes (length hs) ++ x) same.0, same.1)

-- a way to one signature of a lowest tree is the way to all of them
pub way_stays : (key : Key) (m n : ℕ) (way : Way) → IsWayOf key m way →
    m / 2 ^ way.lowest.height ≡ n / 2 ^ way.lowest.height
    → IsWayOf key n way
way_stays key m n way leads e =
    let at : m / 2 ^ (bottom_of key key.heights m).height ≡ n / 2 ^ (bottom_of key key.heights m).height =
    subst (λ (t : TreeSeed). m / 2 ^ t.height ≡ n / 2 ^ t.height) leads.lowest e in
    let same = same_of key key.heights m n at in
    record { front = leads.front ∙ same.0; lowest = leads.lowest ∙ same.1; height = leads.height }

-- a way that went down from the top leads to the signature
way_down : (key : Key) (hs : List ℕ) (h : ℕ) (rest : List ℕ) (m : ℕ) (way : Way) (front : List ℕ) (top : TreeSeed) →
    hs ≡ h ∷ rest
    → front ≡ u32_bytes (length rest) → top ≡ top_tree key h
    → way.front.items ≡ front ++ front_below top rest m → way.lowest ≡ bottom_below top rest m
    → (way.front.items ≡ front_of key hs m) × (way.lowest ≡ bottom_of key hs m)
way_down key hs h rest m way front top cons e_front e_top e_way e_lowest = (
  e_way ∙ ap (λ x. x ++ front_below top rest m) e_front
      ∙ ap (λ (t : TreeSeed). u32_bytes (length rest) ++ front_below t rest m) e_top
      ∙ ap (λ (l : List ℕ). front_of key l m) (sym cons),
  e_lowest ∙ ap (λ (t : TreeSeed). bottom_below t rest m) e_top ∙ ap (λ (l : List ℕ). bottom_of key l m) (sym cons),
)

made_below : (tree : TreeSeed) (hs : List ℕ) (m : ℕ) → IsMadeHeight tree.height → HasMadeHeights hs →
    IsMadeHeight (bottom_below tree hs m).height
made_below tree [] m height made = height
made_below tree (h ∷ hs) m height made =
    made_below (child_tree tree h (leaf_at tree (h ∷ hs) m)) hs m
    (subst IsMadeHeight (sym (child_height tree h (leaf_at tree (h ∷ hs) m))) (first_made h hs made))
    (rest_made h hs made)

pub way_found : (key : Key) (h : ℕ) (rest : List ℕ) (m : ℕ) (front : List ℕ) (top : TreeSeed) →
    key.heights ≡ h ∷ rest → HasMadeHeights key.heights
    → front ≡ u32_bytes (length rest) → top ≡ top_tree key h
    → (r : Result Way Want) → IfOk r (λ way. way.lowest ≡ bottom_below top rest m) →
    IfOk r (λ way. way.front.items ≡ front ++ front_below top rest m)
    → IfOk r (IsWayOf key m)
way_found key h rest m front top cons made e_front e_top (Err e) lowest down = tt
way_found key h rest m front top cons made e_front e_top (Ok way) lowest down =
    let parts = way_down key key.heights h rest m way front top cons e_front e_top down lowest in
    let all : HasMadeHeights (h ∷ rest) = subst HasMadeHeights cons made in
    let bottom = made_below (top_tree key h) rest m (first_made h rest all) (rest_made h rest all) in
    let low = lowest ∙ ap (λ (t : TreeSeed). bottom_below t rest m) e_top in
    record {
      front = parts.0;
      lowest = parts.1;
      height =
          subst (λ (t : TreeSeed). IsMadeHeight t.height) (sym low) bottom;
    }

-- what is said of a signature's bytes is said of the signature
pub signature_ok : (r : Result (Vec ℕ Global) Want) (x y : List ℕ) → x ≡ y → IfOk r (λ sig. sig.items ≡ x) →
    IfOk r (λ sig. sig.items ≡ y)
signature_ok r x y e h = subst (λ z. IfOk r (λ sig. sig.items ≡ z)) e h

pub verifies_ok : (r : Result (Vec ℕ Global) Want) (public message x : List ℕ) → Verifies public message x
    → IfOk r (λ sig. sig.items ≡ x) → IfOk r (λ sig. Verifies public message sig.items)
verifies_ok (Err e) public message x v h = tt
verifies_ok (Ok sig) public message x v h = subst (Verifies public message) (sym h) v

pub short_ok : (r : Result (Vec ℕ Global) Want) (x : List ℕ) → length x ≤ longest_signature
    → IfOk r (λ sig. sig.items ≡ x) → IfOk r (λ sig. length sig.items ≤ longest_signature)
short_ok (Err e) x few h = tt
short_ok (Ok sig) x few h = subst (λ (s : List ℕ). length s ≤ longest_signature) (sym h) few

pub public_is : (key : Key) (h : ℕ) (rest : List ℕ) (levels : ℕ) (top : TreeSeed) → key.heights ≡ h ∷ rest →
    levels ≡ length key.heights
    → top ≡ top_tree key h → u32_bytes levels ++ tree_public top ≡ key_public key
unfolding key_public
public_is key h rest levels top cons e_levels e_top =
    ap (λ (n : ℕ). u32_bytes n ++ tree_public top) (e_levels ∙ ap length cons)
    ∙ ap (λ (t : TreeSeed). u32_bytes (length (h ∷ rest)) ++ tree_public t) e_top
    ∙ ap (λ (l : List ℕ). public_of key l) (sym cons)

pub used_fits : (t used : ℕ) → t ≤ 60 → used ≤ 2 ^ t → used + 1 < 2 ^ 64
used_fits t used few within =
    let top : 2 ^ t ≤ 2 ^ 60 = pow-le-pow_right {n = 2} (omega arith) {i = t} {j = 60} few in
    omega arith
