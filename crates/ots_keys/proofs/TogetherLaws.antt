-- Three keys' chains in turn.
use Rattle.std.proofs.Common.{◌≡◌, ◌≢◌, ◌≤◌, ◌<◌, ◌+◌, ◌-◌, ◌*◌, ◌/◌, ◌%◌, ℕ, List, length, take, drop, slice_index, slice_set, refl, ap, ◌∙◌}
use Rattle.std.proofs.Common.{zero, suc, arith, below_more, get_or-set_same, get_or-set_other}
use Rattle.std.proofs.lemmas.List.{drop-drop, get_or-take, length-take-le}
use Rattle.lane_chains.specs.declared.three.KeyAt.{KeyAt}
use Rattle.lane_chains.specs.Hash.{hash_under}
use Rattle.lane_chains.specs.Chains.{joined, value_at, AreSteps}
use Rattle.lane_chains.specs.Three.{of_three, end_of_three, key_of_three}
use Rattle.lane_chains.proofs.ChainsGrow.{joined-cong}
use Rattle.ots_keys.specs.declared.parameters.Ots.{Ots}
use Rattle.ots_keys.specs.Parameters.{chains, top_digit}
use Rattle.ots_keys.specs.Digits.{digit}
use Rattle.ots_keys.specs.Keys.{public_tag, key_of_ends, element_in, finished_element}

-- what holds of each of three
pub below_three : (P : ℕ → Type 0) → P 0 → P 1 → P 2 → (k : ℕ) → k < 3 → P k
below_three P a b c zero h = a
below_three P a b c (suc zero) h = b
below_three P a b c (suc (suc zero)) h = c
below_three P a b c (suc (suc (suc k))) h = absurd (omega arith)

pub each_of_three : (P : List ℕ → Type 0) (x y z : List ℕ) → P x → P y → P z → (k : ℕ) → P (of_three x y z k)
each_of_three P x y z hx hy hz zero = hx
each_of_three P x y z hx hy hz (suc zero) = hy
each_of_three P x y z hx hy hz (suc (suc k)) = hz

-- from the third on it is the third
pub third_is : (x y z : List ℕ) (k : ℕ) → 2 ≤ k → z ≡ of_three x y z k
third_is x y z zero h = absurd (omega arith)
third_is x y z (suc zero) h = absurd (omega arith)
third_is x y z (suc (suc k)) h = refl

-- one place more is written
pub places_more : (f : ℕ → ℕ) (xs : List ℕ) (n x : ℕ) → n < length xs → x ≡ f n
    → ((k : ℕ) → k < n → slice_index xs k ≡ f k) → (k : ℕ) → k < n + 1 → slice_index (slice_set xs n x) k ≡ f k
places_more f xs n x inside e before =
    below_more (λ k. slice_index (slice_set xs n x) k ≡ f k) n
    (λ k h. let ne : k ≢ n = omega arith in get_or-set_other xs n k x 0 ne ∙ before k h)
    (get_or-set_same xs n x 0 inside ∙ e)

-- the first steps of lists
pub steps_to : (n : ℕ) (from to : List ℕ) → 0 < n → n ≤ 265 → length from ≡ 265 → length to ≡ 265
    → ((i : ℕ) → i < n → slice_index from i ≤ slice_index to i) → ((i : ℕ) → i < n → slice_index to i ≤ 256)
    → AreSteps (take n from) (take n to)
steps_to n from to some few len_from len_to order top =
    let from_len : length (take n from) ≡ n = length-take-le n from (omega arith) in
    let to_len : length (take n to) ≡ n = length-take-le n to (omega arith) in
    record {
      some = omega arith;
      few = omega arith;
      same = omega arith;
      order = λ i lt.
          let inside : i < n = omega arith in
          rw (get_or-take n from i 0 inside, get_or-take n to i 0 inside) (order i inside);
      top = λ i lt.
          let inside : i < n = omega arith in
          rw (get_or-take n to i 0 inside) (top i inside);
    }

-- chain n of all, where it is chain i of key k
end_is : (ots : Ots) (a b c : KeyAt) (from to starts hash sig : List ℕ) (all n k i top : ℕ) → n < all
    → n % 3 ≡ k → n / 3 ≡ i → top ≡ top_digit ots → slice_index from n ≡ digit ots hash i → slice_index to n ≡ top
    → value_at starts n ≡ element_in sig i
    → end_of_three a b c (take all from) (take all to) starts n
    ≡ finished_element ots (of_three a b c k).id (of_three a b c k).q hash sig i
end_is ots a b c from to starts hash sig all n k i top lt rest part e_top e_from e_to e_start =
    rw (get_or-take all from n 0 lt, get_or-take all to n 0 lt, rest, part, e_from, e_to, e_top, e_start) refl

-- the key that chains end in which stand in turn with those of two others
pub together_is : (ots : Ots) (a b c : KeyAt) (x y z u v w from to starts hash sig : List ℕ) (k all count top : ℕ)
    → k < 3 → all ≡ 3 * count → count ≡ chains ots → top ≡ top_digit ots
    → ((n : ℕ) → n < all → slice_index from n ≡ slice_index (of_three x y z (n % 3)) (n / 3))
    → ((n : ℕ) → n < all → slice_index to n ≡ top)
    → ((n : ℕ) → n < all → value_at starts n ≡ value_at (of_three u v w (n % 3)) (n / 3))
    → ((i : ℕ) → i < count → slice_index (of_three x y z k) i ≡ digit ots hash i)
    → of_three u v w k ≡ drop 36 sig
    → key_of_three a b c public_tag count (end_of_three a b c (take all from) (take all to) starts) k
    ≡ key_of_ends ots (of_three a b c k).id (of_three a b c k).q
    (finished_element ots (of_three a b c k).id (of_three a b c k).q hash sig)
together_is ots a b c x y z u v w from to starts hash sig k all count top lt e_all e_count e_top e_from e_to e_starts e_digits
    e_rest =
    let key = of_three a b c k in
    ap (hash_under key.id key.q public_tag)
    (joined-cong _ (finished_element ots key.id key.q hash sig) count (λ i below.
    let n : ℕ = 3 * i + k in
    let inside : n < all = omega arith in
    let rest : n % 3 ≡ k = omega arith in
    let part : n / 3 ≡ i = omega arith in
    let from_is : slice_index from n ≡ slice_index (of_three x y z k) i = rw (rest, part) at (e_from n inside) in
    let start_is : value_at starts n ≡ value_at (of_three u v w k) i = rw (rest, part) at (e_starts n inside) in
    end_is ots a b c from to starts hash sig all n k i top inside rest part e_top (from_is ∙ e_digits i below)
    (e_to n inside)
    (start_is ∙ ap (λ (t : List ℕ). value_at t i) e_rest ∙ ap (take 32) (drop-drop (32 * i) 36 sig)))
    ∙ ap (λ (m : ℕ). joined (finished_element ots key.id key.q hash sig) m) e_count)
