-- The definitions over levels at a number of levels that isn't 0.
use Rattle.std.proofs.Common.{◌≡◌, ◌≤◌, ◌<◌, ◌+◌, ◌-◌, ◌/◌, ℕ, suc, true, List, length, take, drop, refl, sym, ap}
use Rattle.std.proofs.Common.{◌∙◌, arith, lt-ltb, le-leb, nat_lt, nat_le, Option, None, if◌then◌else◌, cond}
use Rattle.std.proofs.lemmas.Bool.{cond-true}
use Rattle.checked_frames.specs.Groups.{level_above, raised, sibling, parent_hash, led_to}

at_least_one : (n : ℕ) → 1 ≤ n → n ≡ suc (n - 1)
at_least_one n h = omega arith

pub raised_more : (n : ℕ) (nodes : List (List ℕ)) → 1 ≤ n → raised n nodes ≡ raised (n - 1) (level_above nodes)
raised_more n nodes h = ap (λ (k : ℕ). raised k nodes) (at_least_one n h)

-- a level that has a sibling takes its hash
pub led_to_up : (n count place : ℕ) (here path : List ℕ) → 1 ≤ n → sibling place < count → 32 ≤ length path
    → led_to n count place here path
    ≡ led_to (n - 1) ((count + 1) / 2) (place / 2) (parent_hash place here (take 32 path)) (drop 32 path)
led_to_up n count place here path h below enough =
    let up = led_to (n - 1) ((count + 1) / 2) (place / 2) (parent_hash place here (take 32 path)) (drop 32 path) in
    let straight = led_to (n - 1) ((count + 1) / 2) (place / 2) here path in
    let inner = if nat_le 32 (length path) then up else None in
    ap (λ (k : ℕ). led_to k count place here path) (at_least_one n h)
    ∙ cond-true (nat_lt (sibling place) count) inner straight (lt-ltb (sibling place) count below)
    ∙ cond-true (nat_le 32 (length path)) up None (le-leb 32 (length path) enough)
