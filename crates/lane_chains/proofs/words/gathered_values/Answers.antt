-- Each lane's eight words are those at its chain's value, so that together they are the value's 32 bytes.
use Rattle.std.proofs.Common.{◌≡◌, ◌+◌, ◌*◌, ℕ, [], ◌∷◌, arith, slice_index}
use Rattle.sha2.specs.Sha256.{word_at}
use Rattle.lane_chains.proofs.LanesOneByOne.{below_eight}
use Rattle.lane_chains.proofs.BytesAsWords.{words_bytes}
use Rattle.lane_chains.proofs.words.gathered_values.Goals as goal

pub returns : goal.returns
returns c j lt =
    let values = c.args.values.now in
    let at = 32 * slice_index c.args.group.now j in
    let words =
    slice_index c.gathered_word.result j ∷ slice_index c.gathered_word-2.result j
    ∷ slice_index c.gathered_word-3.result j
    ∷ slice_index c.gathered_word-4.result j ∷ slice_index c.gathered_word-5.result j
    ∷ slice_index c.gathered_word-6.result j
    ∷ slice_index c.gathered_word-7.result j ∷ slice_index c.gathered_word-8.result j ∷ [] in
    words_bytes values words at 8 (omega (arith, c.requires j lt)) (λ i. (c.type_inv.values i).fits)
    (below_eight (λ (k : ℕ). slice_index words k ≡ word_at values (at + 4 * k)) (c.gathered_word.ensures j lt)
    (c.gathered_word-2.ensures j lt)
    (c.gathered_word-3.ensures j lt) (c.gathered_word-4.ensures j lt) (c.gathered_word-5.ensures j lt)
    (c.gathered_word-6.ensures j lt)
    (c.gathered_word-7.ensures j lt) (c.gathered_word-8.ensures j lt))
