-- Lanes that are chosen, and chains that grow in some lanes.
use Rattle.std.proofs.Common.{◌≡◌, ℕ, ◌<◌, ◌≤◌, ◌+◌, ◌-◌, ◌%◌, ◌^◌, List, [], ◌∷◌, ◌++◌, length, slice_index, arith}
use Rattle.std.proofs.Common.{refl, sym, ap, ◌∙◌, inl, inr, true, false, w32}
use Rattle.std.specs.Prelude.{cond, ltb, map}
use Rattle.std.specs.Simd.Lanes.{zip2}
use Rattle.std.proofs.lemmas.Bool.{cases_lt, lt-ltb, le-ltb}
use Rattle.std.proofs.lemmas.Simd.{tops_compared, length-zip2, get_or-zip2, get_or-sel_l}
use lib.Lanes.{sel_l, top}
use mir.Val.{bits, hbits}
use Rattle.sha2.specs.Sha256.{digest_bytes, sha256}
use Rattle.wire_parts.specs.Fields.{u8_bytes, u16_bytes, u32_bytes}
use Rattle.lane_chains.specs.Steps.{step_text}
use Rattle.lane_chains.proofs.LanesOneByOne.{below_eight}
use Rattle.lane_chains.specs.Hash.{hash_under}
use Rattle.lane_chains.specs.Chains.{chain}
use Rattle.lane_chains.proofs.ChainsGrow.{chain-more}

-- a step's text is hashed under the identifier
pub step_is_hash : (id : List ℕ) (q c s : ℕ) (h : List ℕ)
    → sha256 (step_text id q c s h) ≡ hash_under (digest_bytes id 4) q c (u8_bytes s ++ digest_bytes h 8)
unfolding hash_under u16_bytes u32_bytes digest_bytes
step_is_hash id q c s h = refl

-- a choice by a comparison, lane by lane
pub chosen_is : (s t a b : List ℕ) (j : ℕ) → length s ≡ 8 → length t ≡ 8 → length a ≡ 8 → length b ≡ 8 → j < 8
    → slice_index (sel_l (map (top (hbits w32)) (zip2 (λ x y. cond (ltb x y) (2 ^ bits w32 - 1) 0) s t)) a b) j
    ≡ cond (ltb (slice_index s j) (slice_index t j)) (slice_index a j) (slice_index b j)
chosen_is s t a b j ls lt la lb below =
    let z : length (zip2 ltb s t) ≡ 8 = length-zip2 ltb s t (omega arith) ∙ ls in
    rw (tops_compared w32 ltb s t)
    (get_or-sel_l (zip2 ltb s t) a b j 0 (omega arith) (omega arith) (omega arith)
    ∙ ap (λ m. cond m (slice_index a j) (slice_index b j))
    (get_or-zip2 ltb s t j 0 0 false (omega arith) (omega arith)))

pub zero_lane : (j : ℕ) → j < 8 → slice_index (0 ∷ 0 ∷ 0 ∷ 0 ∷ 0 ∷ 0 ∷ 0 ∷ 0 ∷ []) j ≡ 0
zero_lane = below_eight (λ j. slice_index (0 ∷ 0 ∷ 0 ∷ 0 ∷ 0 ∷ 0 ∷ 0 ∷ 0 ∷ []) j ≡ 0)
    refl refl refl refl refl refl refl refl

-- the number of a step is one byte, also where no step is left
pub step_fits : (steps to now : ℕ) → to ≤ 2 ^ 8 → now ≡ cond (ltb steps to) steps 0 → now < 2 ^ 8
step_fits steps to now top e = elim (cases_lt steps to) [
  | inl lt ↦ let yes : ltb steps to ≡ true = lt-ltb steps to lt in let k : now ≡ steps = rw yes at e in omega arith
  | inr ge ↦ let no : ltb steps to ≡ false = le-ltb steps to ge in let k : now ≡ 0 = rw no at e in omega arith
]

-- what holds of a lane in the midst of its chain
pub record Lane (id : List ℕ) (q c from to left steps : ℕ) (start v : List ℕ) : Type 0 where
  pub low : from ≤ steps
  pub high : steps ≤ to
  pub room : to ≤ steps + left
  pub value : digest_bytes v 8 ≡ chain id q c from (steps - from) (digest_bytes start 8)

-- one turn more
pub lane_more : (id : List ℕ) (q c from to left later_left steps now : ℕ) (start v next kept : List ℕ) (later : ℕ)
    → Lane (digest_bytes id 4) q c from to left steps start v → to ≤ 2 ^ 8 → left ≡ later_left + 1
    → now ≡ cond (ltb steps to) steps 0
    → digest_bytes next 8 ≡ sha256 (step_text id q c now v)
    → kept ≡ cond (ltb steps to) next v
    → later ≡ cond (ltb steps to) ((steps + 1) % 2 ^ 32) steps
    → Lane (digest_bytes id 4) q c from to later_left later start kept
lane_more id q c from to left later_left steps now start v next kept later l top count e_now e_next e_kept e_later =
    elim (cases_lt steps to) [
      | inl lt ↦
          let yes : ltb steps to ≡ true = lt-ltb steps to lt in
          let n : now ≡ steps = rw yes at e_now in
          let k : kept ≡ next = rw yes at e_kept in
          let s : later ≡ (steps + 1) % 2 ^ 32 = rw yes at e_later in
          let s1 : later ≡ steps + 1 = omega (arith, l.high, l.low) in
          record {
            low = omega (arith, l.low);
            high = omega arith;
            room = omega (arith, l.room);
            value =
                ap (λ x. digest_bytes x 8) k ∙ e_next ∙ ap (λ (x : ℕ). sha256 (step_text id q c x v)) n
                ∙ step_is_hash id q c steps v
                ∙ ap (λ x. hash_under (digest_bytes id 4) q c (u8_bytes steps ++ x)) l.value
                ∙ sym (chain-more (digest_bytes id 4) q c from steps (digest_bytes start 8) l.low)
                ∙ ap (λ n. chain (digest_bytes id 4) q c from (n - from) (digest_bytes start 8)) (sym s1);
          }
      | inr ge ↦
          let no : ltb steps to ≡ false = le-ltb steps to ge in
          let k : kept ≡ v = rw no at e_kept in
          let s : later ≡ steps = rw no at e_later in
          record {
            low = omega (arith, l.low);
            high = omega (arith, l.high);
            room = omega (arith, l.room);
            value =
                ap (λ x. digest_bytes x 8) k ∙ l.value
                ∙ ap (λ n. chain (digest_bytes id 4) q c from (n - from) (digest_bytes start 8)) (sym s);
          }
    ]

-- before the first turn
pub lane_none : (id : List ℕ) (q c from to left : ℕ) (start : List ℕ) → from ≤ to → to ≤ from + left
    → Lane id q c from to (left - 0) from start start
lane_none id q c from to left start order room =
    let none : from - from ≡ 0 = omega arith in
    record {
      low = omega arith;
      high = order;
      room = omega arith;
      value = ap (λ n. chain id q c from n (digest_bytes start 8)) (sym none);
    }

-- after the last
pub lane_done : (id : List ℕ) (q c from to left steps : ℕ) (start v : List ℕ) →
    Lane id q c from to left steps start v → left ≡ 0
    → digest_bytes v 8 ≡ chain id q c from (to - from) (digest_bytes start 8)
lane_done id q c from to left steps start v l none =
    let all : steps ≡ to = omega (arith, l.high, l.room) in
    l.value ∙ ap (λ n. chain id q c from (n - from) (digest_bytes start 8)) all
