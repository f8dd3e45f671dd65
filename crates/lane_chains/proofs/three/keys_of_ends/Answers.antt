-- A pair of ends fills a block with what was left before it, and leaves as much of its second. The number of ends is
-- odd, so the last block has the last end, and the padding.
use Rattle.std.proofs.Common.{◌≡◌, ◌<◌, ◌+◌, ◌-◌, ◌*◌, ◌^◌, ◌++◌, ◌∙◌, ℕ, List, ap, arith, length, refl}
use Rattle.std.proofs.lemmas.List.{append-nil}
use Rattle.std.proofs.Common.{length-append}
use Rattle.sha2.specs.Sha256.{digest_bytes, initial_hash_256, sha256}
use Rattle.wire_parts.specs.Fields.{u16_bytes, u32_bytes}
use Rattle.lane_chains.specs.Hash.{hash_under}
use Rattle.lane_chains.specs.Lanes.{lane}
use Rattle.lane_chains.specs.Chains.{joined, value_at}
use Rattle.lane_chains.specs.Made.{head, ending}
use Rattle.lane_chains.specs.Three.{of_three}
use Rattle.lane_chains.proofs.PairsOfValues.{Taken, taken_none, taken_more, taken_all, pair_joined, last_joined, head_first, length-digest}
use Rattle.lane_chains.proofs.ThreeKeys.{length-head, length-joined_to, length-value}
use Rattle.lane_chains.proofs.three.keys_of_ends.Goals as goal

pub ends_of-end-requires : goal.ends_of-end-requires
ends_of-end-requires c = omega (arith, c.requires.few, c.requires.odd)

pub pairs-init : goal.pairs-init
pairs-init c = λ k lt.
    let key = of_three c.args.a.now c.args.b.now c.args.c.now k in
    let tag = c.args.tag in
    let m = key.id ++ (u32_bytes key.q ++ u16_bytes tag) in
    let len : length m ≡ 22 = length-head (lane k c.heads_of-last.result) key.id key.q tag (c.heads_of-last.ensures k lt) in
    let first : lane k c.first_state-h.result ≡ initial_hash_256 = c.first_state-h.ensures k (omega arith) in
    let t : Taken initial_hash_256 (head key.id key.q tag) m = taken_none (head key.id key.q tag) m len refl in
    rw (first, c.heads_of-last.ensures k lt, append-nil m) t

pub pairs-preserved : goal.pairs-preserved
pairs-preserved c = λ k lt.
    let key = of_three c.args.a.now c.args.b.now c.args.c.now k in
    let ends = c.args.ends.now in
    let i = c.pairs.i in
    let below : k < 8 = omega arith in
    let f : ℕ → List ℕ = λ (n : ℕ). value_at ends (3 * n + k) in
    let x = key.id ++ (u32_bytes key.q ++ u16_bytes c.args.tag) in
    let a = digest_bytes (lane k c.ends_of-x.result) 8 in
    let b = digest_bytes (lane k c.ends_of-y.result) 8 in
    let ea : a ≡ f (2 * i) = c.ends_of-x.ensures k lt in
    let eb : b ≡ f (2 * i + 1) = c.ends_of-y.ensures k lt in
    let more = taken_more (lane k c.pairs.h) (digest_bytes (lane k c.pairs.last) 8) (x ++ joined f (2 * i))
    (c.pairs.invariant k lt) a b (lane k c.take_pair-next.result) (length-digest _) (length-digest _)
    (c.take_pair-next.ensures k below) in
    rw (pair_joined x f (2 * i) (2 * (i + 1)) a b ea eb (omega arith)) at more

pub returns : goal.returns
unfolding hash_under
returns c = λ k lt.
    let key = of_three c.args.a.now c.args.b.now c.args.c.now k in
    let ends = c.args.ends.now in
    let tag = c.args.tag in
    let count = c.args.count in
    let below : k < 8 = omega arith in
    let f : ℕ → List ℕ = λ (n : ℕ). value_at ends (3 * n + k) in
    let x = key.id ++ (u32_bytes key.q ++ u16_bytes tag) in
    let n : ℕ = count - 1 in
    let done : 2 * c.pairs.i ≡ n = omega (arith, c.requires.odd) in
    let m = x ++ joined f n in
    let held : Taken (lane k c.pairs.h) (digest_bytes (lane k c.pairs.last) 8) m = rw done at (c.pairs.invariant k lt) in
    let end = digest_bytes (lane k c.ends_of-end.result) 8 in
    let ee : end ≡ f n = c.ends_of-end.ensures k lt in
    let lx : length x ≡ 22 = length-head (lane k c.heads_of-last.result) key.id key.q tag (c.heads_of-last.ensures k lt) in
    let lj = length-joined_to f n (λ i lt'. length-value ends (3 * i + k) (omega (arith, c.requires.few, c.requires.odd))) in
    let size : length m ≡ 22 + 32 * n = omega (arith, lx, lj, length-append x (joined f n)) in
    let len : 22 + 32 * c.from.result ≡ length m + 32 = omega (arith, size, c.requires.odd, c.from.ensures) in
    let pad : digest_bytes (lane k c.same_value-padding.result) 8 ≡ ending (length m + 32) =
    c.same_value-padding.ensures k below ∙ c.ending.ensures ∙ ap ending len in
    let small : length m + 32 < 2 ^ 32 = omega (arith, size, c.requires.few) in
    let last : count ≡ n + 1 = omega (arith, c.requires.odd) in
    c.three_values.ensures k lt
    ∙ taken_all (lane k c.pairs.h) (digest_bytes (lane k c.pairs.last) 8) m held end
    (digest_bytes (lane k c.same_value-padding.result) 8) (lane k c.take_pair.result) (length-digest _) small pad
    (c.take_pair.ensures k below)
    ∙ ap sha256 (last_joined x f n count end ee last ∙ head_first key.id (u32_bytes key.q) (u16_bytes tag) (joined f count))
