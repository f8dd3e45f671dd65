-- A pair of ends fills a block with what was left before it, and leaves as much of its second. The number of ends is
-- odd, so the last block has the last end, and the padding.
use Rattle.std.proofs.Common.{◌≡◌, ◌<◌, ◌+◌, ◌-◌, ◌*◌, ◌^◌, ◌++◌, ◌∙◌, ℕ, List, ap, arith, length, refl, slice_index}
use Rattle.std.proofs.lemmas.List.{append-nil}
use Rattle.std.proofs.Common.{length-append}
use Rattle.sha2.specs.Sha256.{digest_bytes, initial_hash_256, sha256}
use Rattle.wire_parts.specs.Fields.{u16_bytes, u32_bytes}
use Rattle.lane_chains.specs.Hash.{hash_under}
use Rattle.lane_chains.specs.Lanes.{lane}
use Rattle.lane_chains.specs.Chains.{joined}
use Rattle.lane_chains.specs.Made.{made_end, head, ending}
use Rattle.lane_chains.proofs.PairsOfValues.{Taken, taken_none, taken_more, taken_all, pair_joined, last_joined, head_first, length-digest, length-joined, length-made_end}
use Rattle.lane_chains.proofs.made.made_keys.Goals as goal

-- the head's 22 bytes
length-head : (id : List ℕ) (q tag : ℕ) → length id ≡ 16 → length (id ++ (u32_bytes q ++ u16_bytes tag)) ≡ 22
unfolding u16_bytes u32_bytes
length-head id q tag len = omega (arith, len, length-append id (u32_bytes q ++ u16_bytes tag))

pub pairs-init : goal.pairs-init
pairs-init c = λ j lt.
    let id = c.args.id.now in
    let q = c.args.q + j in
    let tag = c.args.tag in
    let m = id ++ (u32_bytes q ++ u16_bytes tag) in
    let len : length m ≡ 22 = length-head id q tag (omega arith) in
    let none : 2 * 0 ≡ 0 = omega arith in
    let first : lane j c.first_state-h.result ≡ initial_hash_256 = c.first_state-h.ensures j lt in
    let t : Taken initial_hash_256 (head id q tag) m = taken_none (head id q tag) m len refl in
    rw (first, c.heads-last.ensures j lt, append-nil m) t

pub pairs-preserved : goal.pairs-preserved
pairs-preserved c = λ j lt.
    let id = c.args.id.now in
    let q = c.args.q + j in
    let top = c.args.top in
    let seed = c.args.seed.now in
    let i = c.pairs.i in
    let f : ℕ → List ℕ = made_end id q top seed in
    let x = id ++ (u32_bytes q ++ u16_bytes c.args.tag) in
    let a = digest_bytes (lane j c.end_each-a.result) 8 in
    let b = digest_bytes (lane j c.end_each-b.result) 8 in
    let same : (k : ℕ) → made_end (digest_bytes c.id_words-words.result 4) (slice_index c.leaves_from-leaves.result j) top
    (digest_bytes (lane j c.same_value-seeds.result) 8) k ≡ f k =
    λ k n. made_end (c.id_words-words.ensures n) (c.leaves_from-leaves.ensures j lt n) top
    (c.same_value-seeds.ensures j lt n) k in
    let ea : a ≡ f (2 * i) = c.end_each-a.ensures j lt ∙ same (2 * i) in
    let eb : b ≡ f (2 * i + 1) = c.end_each-b.ensures j lt ∙ same (2 * i + 1) in
    let more = taken_more (lane j c.pairs.h) (digest_bytes (lane j c.pairs.last) 8) (x ++ joined f (2 * i))
    (c.pairs.invariant j lt) a b (lane j c.take_pair-next.result) (length-digest _) (length-digest _)
    (c.take_pair-next.ensures j lt) in
    rw (pair_joined x f (2 * i) (2 * (i + 1)) a b ea eb (omega arith)) at more

pub returns : goal.returns
unfolding hash_under
returns c = λ j lt.
    let id = c.args.id.now in
    let q = c.args.q + j in
    let tag = c.args.tag in
    let top = c.args.top in
    let seed = c.args.seed.now in
    let count = c.args.count in
    let f : ℕ → List ℕ = made_end id q top seed in
    let x = id ++ (u32_bytes q ++ u16_bytes tag) in
    let n : ℕ = count - 1 in
    let done : 2 * c.pairs.i ≡ n = omega (arith, c.requires.odd) in
    let m = x ++ joined f n in
    let held : Taken (lane j c.pairs.h) (digest_bytes (lane j c.pairs.last) 8) m = rw done at (c.pairs.invariant j lt) in
    let end = digest_bytes (lane j c.end_each-end.result) 8 in
    let same : made_end (digest_bytes c.id_words-words.result 4) (slice_index c.leaves_from-leaves.result j) top
    (digest_bytes (lane j c.same_value-seeds.result) 8) n ≡ f n =
    λ k. made_end (c.id_words-words.ensures k) (c.leaves_from-leaves.ensures j lt k) top
    (c.same_value-seeds.ensures j lt k) n in
    let ee : end ≡ f n = c.end_each-end.ensures j lt ∙ same in
    let lx : length x ≡ 22 = length-head id q tag (omega arith) in
    let lj = length-joined f (length-made_end id q top seed) n in
    let size : length m ≡ 22 + 32 * n = omega (arith, lx, lj, length-append x (joined f n)) in
    let len : 22 + 32 * c.from.result ≡ length m + 32 = omega (arith, c.requires.odd, c.from.ensures) in
    let pad : digest_bytes (lane j c.same_value-padding.result) 8 ≡ ending (length m + 32) =
    c.same_value-padding.ensures j lt ∙ c.ending.ensures ∙ ap ending len in
    let small : length m + 32 < 2 ^ 32 = omega (arith, c.requires.few) in
    let last : count ≡ n + 1 = omega (arith, c.requires.odd) in
    c.all_values.ensures j lt
    ∙ taken_all (lane j c.pairs.h) (digest_bytes (lane j c.pairs.last) 8) m held end
    (digest_bytes (lane j c.same_value-padding.result) 8) (lane j c.take_pair.result) (length-digest _) small pad
    (c.take_pair.ensures j lt)
    ∙ ap sha256 (last_joined x f n count end ee last ∙ head_first id (u32_bytes q) (u16_bytes tag) (joined f count))
