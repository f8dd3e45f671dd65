-- The steps of a key's chains, as lists of which the first stand for chains.
use Rattle.std.proofs.Common.{◌≡◌, ◌≤◌, ◌<◌, ◌-◌, ◌*◌, ℕ, List, length, take, drop, slice_index, refl, ap, ◌∙◌}
use Rattle.std.proofs.Common.{zero, suc, arith}
use Rattle.std.specs.Prelude.{replicate}
use Rattle.std.proofs.lemmas.List.{drop-drop, get_or-replicate, get_or-take, length-take-le}
use Rattle.lane_chains.specs.Chains.{chain, value_at, end_of, AreSteps}
use Rattle.ots_keys.specs.declared.parameters.Ots.{Ots}
use Rattle.ots_keys.specs.declared.parameters.Ots.TheVariants.{W1, W2, W4, W8}
use Rattle.ots_keys.specs.Parameters.{chains, top_digit}
use Rattle.ots_keys.specs.Digits.{digit}
use Rattle.ots_keys.specs.Keys.{secret, public_key, public_tag, chain_end, element_in, signed_element, finished_element}
use Rattle.lane_chains.specs.Hash.{hash_under}
use Rattle.lane_chains.specs.Made.{made_key}
use Rattle.lane_chains.proofs.ChainsGrow.{joined-cong}

-- the number of chains
pub chains_are : (ots : Ots) → (0 < chains ots) × (chains ots ≤ 265)
chains_are W1 = (omega arith, omega arith)
chains_are W2 = (omega arith, omega arith)
chains_are W4 = (omega arith, omega arith)
chains_are W8 = (omega arith, omega arith)

-- the same number at each place
pub same_at : (a i : ℕ) → i < 265 → slice_index (replicate 265 a) i ≡ a
same_at a i lt = get_or-replicate 265 i a 0 lt

pub count_is : (n a : ℕ) → n ≤ 265 → length (take n (replicate 265 a)) ≡ n
count_is n a few = length-take-le n (replicate 265 a) few

pub are_steps : (ots : Ots) (from to : List ℕ) → length from ≡ 265 → length to ≡ 265
    → ((i : ℕ) → i < chains ots → slice_index from i ≤ slice_index to i) →
    ((i : ℕ) → i < chains ots → slice_index to i ≤ 256)
    → AreSteps (take (chains ots) from) (take (chains ots) to)
are_steps ots from to len_from len_to order top =
    let n = chains ots in
    let few = (chains_are ots).1 in
    let some = (chains_are ots).0 in
    let from_len : length (take n from) ≡ n = length-take-le n from (omega arith) in
    let to_len : length (take n to) ≡ n = length-take-le n to (omega arith) in
    record {
      some = omega arith;
      few = omega arith;
      same = omega arith;
      order = λ i lt.
          let inside : i < n = omega arith in
          rw (get_or-take n from i 0 inside, get_or-take n to i 0 inside) (order i inside);
      top = λ i lt.
          let inside : i < n = omega arith in
          rw (get_or-take n to i 0 inside) (top i inside);
    }

end_is : (id : List ℕ) (q : ℕ) (from to starts : List ℕ) (n i f t : ℕ) (start : List ℕ) → i < n → slice_index from i ≡ f
    → slice_index to i ≡ t → value_at starts i ≡ start →
    end_of id q (take n from) (take n to) starts i ≡ chain id q i f (t - f) start
end_is id q from to starts n i f t start lt e_from e_to e_start =
    rw (get_or-take n from i 0 lt, get_or-take n to i 0 lt, e_from, e_to, e_start) refl

-- a secret is one step from the seed
pub secret_is : (id : List ℕ) (q : ℕ) (seed seeds : List ℕ) (n i : ℕ) → i < n → n ≤ 265 → value_at seeds i ≡ seed
    → end_of id q (take n (replicate 265 255)) (take n (replicate 265 256)) seeds i ≡ secret id q seed i
unfolding secret
secret_is id q seed seeds n i lt few e =
    end_is id q (replicate 265 255) (replicate 265 256) seeds n i 255 256 seed lt (same_at 255 i (omega arith))
    (same_at 256 i (omega arith)) e

pub chain_end_is : (ots : Ots) (id : List ℕ) (q : ℕ) (seed starts : List ℕ) (n i top : ℕ) → i < n →
    n ≤ 265 → top ≡ top_digit ots
    → value_at starts i ≡ secret id q seed i
    → end_of id q (take n (replicate 265 0)) (take n (replicate 265 top)) starts i ≡ chain_end ots id q seed i
chain_end_is ots id q seed starts n i top lt few e_top e =
    let whole : top - 0 ≡ top_digit ots = omega arith in
    end_is id q (replicate 265 0) (replicate 265 top) starts n i 0 top (secret id q seed i)
    lt (same_at 0 i (omega arith))
    (same_at top i (omega arith)) e
    ∙ ap (λ (m : ℕ). chain id q i 0 m (secret id q seed i)) whole

pub signed_is : (ots : Ots) (id : List ℕ) (q : ℕ) (seed hash starts digits : List ℕ) (n i : ℕ) → i < n → n ≤ 265
    → slice_index digits i ≡ digit ots hash i → value_at starts i ≡ secret id q seed i
    → end_of id q (take n (replicate 265 0)) (take n digits) starts i ≡ signed_element ots id q seed hash i
signed_is ots id q seed hash starts digits n i lt few e_digit e =
    let d = digit ots hash i in
    let whole : d - 0 ≡ d = omega arith in
    end_is id q (replicate 265 0) digits starts n i 0 d (secret id q seed i) lt (same_at 0 i (omega arith)) e_digit e
    ∙ ap (λ (m : ℕ). chain id q i 0 m (secret id q seed i)) whole

pub finished_is : (ots : Ots) (id : List ℕ) (q : ℕ) (hash sig digits : List ℕ) (n i top : ℕ) → i < n →
    n ≤ 265 → top ≡ top_digit ots
    → slice_index digits i ≡ digit ots hash i
    → end_of id q (take n digits) (take n (replicate 265 top)) (drop 36 sig) i ≡ finished_element ots id q hash sig i
finished_is ots id q hash sig digits n i top lt few e_top e_digit =
    let d = digit ots hash i in
    let element : value_at (drop 36 sig) i ≡ element_in sig i = ap (take 32) (drop-drop (32 * i) 36 sig) in
    end_is id q digits (replicate 265 top) (drop 36 sig) n i d top (element_in sig i) lt e_digit
    (same_at top i (omega arith)) element
    ∙ ap (λ (t : ℕ). chain id q i d (t - d) (element_in sig i)) e_top

-- a key whose chains start with what step 255 makes of the seed
pub made_is : (ots : Ots) (id : List ℕ) (q : ℕ) (seed : List ℕ)
    → made_key id q public_tag (top_digit ots) seed (chains ots) ≡ public_key ots id q seed
unfolding public_key secret
made_is ots id q seed =
    ap (hash_under id q public_tag) (joined-cong _ (chain_end ots id q seed) (chains ots) (λ i lt. refl))

-- what holds of each of the first eight numbers
pub of_eight : (P : ℕ → Type 0) → P 0 → P 1 → P 2 → P 3 → P 4 → P 5 → P 6 → P 7 → (k : ℕ) → k < 8 → P k
of_eight P a b c d e f g h zero lt = a
of_eight P a b c d e f g h (suc zero) lt = b
of_eight P a b c d e f g h (suc (suc zero)) lt = c
of_eight P a b c d e f g h (suc (suc (suc zero))) lt = d
of_eight P a b c d e f g h (suc (suc (suc (suc zero)))) lt = e
of_eight P a b c d e f g h (suc (suc (suc (suc (suc zero))))) lt = f
of_eight P a b c d e f g h (suc (suc (suc (suc (suc (suc zero)))))) lt = g
of_eight P a b c d e f g h (suc (suc (suc (suc (suc (suc (suc zero))))))) lt = h
of_eight P a b c d e f g h (suc (suc (suc (suc (suc (suc (suc (suc k)))))))) lt = absurd (omega arith)
