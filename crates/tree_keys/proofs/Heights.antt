-- The heights of trees, and type codes.
use Rattle.std.proofs.Common.{◌≡◌, ◌≤◌, ◌<◌, ◌^◌, ◌*◌, ◌/◌, ◌%◌, ℕ, arith, inl, inr, refl}
use Rattle.std.proofs.Math.Nat.{pow-le-pow_right, mod-eq_of_lt}
use Rattle.ots_keys.specs.declared.parameters.Ots.{Ots}
use Rattle.ots_keys.specs.declared.parameters.Ots.TheVariants.{W1, W2, W4, W8}
use Rattle.ots_keys.specs.Parameters.{type_code}
use Rattle.tree_keys.specs.PublicKeys.{IsTreeHeight, tree_code}
use Rattle.tree_keys.specs.Trees.{IsMadeHeight}

pub height_le : (height : ℕ) → IsTreeHeight height → height ≤ 25
height_le height h = grind arith

-- a tree of a height that is no more than 25 has no more leaves than fit
pub leaves_le : (height : ℕ) → height ≤ 25 → 2 ^ height ≤ 2 ^ 25
leaves_le height h = pow-le-pow_right {n = 2} (omega arith) {i = height} {j = 25} h

pub leaves_are : (height : ℕ) → height ≤ 25 → 1 * 2 ^ height % 2 ^ 32 ≡ 2 ^ height
leaves_are height h =
    let top = leaves_le height h in
    let fits : 1 * 2 ^ height < 2 ^ 32 = omega arith in
    let one : 1 * 2 ^ height ≡ 2 ^ height = omega arith in
    rw (mod-eq_of_lt fits, one) refl

in_fives : (height : ℕ) → IsTreeHeight height → height ≡ 5 * (height / 5)
in_fives height h = grind arith

-- a type code stands for one height
pub tree_code-inj : (a b : ℕ) → IsTreeHeight a → IsTreeHeight b → tree_code a ≡ tree_code b → a ≡ b
tree_code-inj a b ha hb e =
    let fa = in_fives a ha in
    let fb = in_fives b hb in
    let q : a / 5 ≡ b / 5 = omega arith in
    omega arith

pub tree_code-lt : (height : ℕ) → height ≤ 25 → tree_code height < 2 ^ 32
tree_code-lt height h = omega arith

pub type_code-lt : (ots : Ots) → type_code ots < 2 ^ 32
type_code-lt W1 = omega arith
type_code-lt W2 = omega arith
type_code-lt W4 = omega arith
type_code-lt W8 = omega arith

-- a type code stands for one type of one-time keys
pub type_code-inj : (a b : Ots) → type_code a ≡ type_code b → a ≡ b
type_code-inj W1 W1 e = refl
type_code-inj W1 W2 e = absurd (omega arith)
type_code-inj W1 W4 e = absurd (omega arith)
type_code-inj W1 W8 e = absurd (omega arith)
type_code-inj W2 W1 e = absurd (omega arith)
type_code-inj W2 W2 e = refl
type_code-inj W2 W4 e = absurd (omega arith)
type_code-inj W2 W8 e = absurd (omega arith)
type_code-inj W4 W1 e = absurd (omega arith)
type_code-inj W4 W2 e = absurd (omega arith)
type_code-inj W4 W4 e = refl
type_code-inj W4 W8 e = absurd (omega arith)
type_code-inj W8 W1 e = absurd (omega arith)
type_code-inj W8 W2 e = absurd (omega arith)
type_code-inj W8 W4 e = absurd (omega arith)
type_code-inj W8 W8 e = refl

pub made_le : (height : ℕ) → IsMadeHeight height → height ≤ 25
made_le height (inl e) = omega arith
made_le height (inr e) = omega arith
