-- Each key's eight words are those at its value, so that together they are the value's 32 bytes.
use Rattle.std.proofs.Common.{◌≡◌, ◌+◌, ◌*◌, ℕ, [], ◌∷◌, arith, slice_index}
use Rattle.sha2.specs.Sha256.{word_at}
use Rattle.lane_chains.proofs.LanesOneByOne.{below_eight}
use Rattle.lane_chains.proofs.BytesAsWords.{words_bytes}
use Rattle.lane_chains.proofs.three.ends_of.Goals as goal

pub returns : goal.returns
returns c k lt =
    let values = c.args.values.now in
    let at = 32 * (3 * c.args.i + k) in
    let words =
    slice_index c.end_word.result k ∷ slice_index c.end_word-2.result k ∷ slice_index c.end_word-3.result k
    ∷ slice_index c.end_word-4.result k ∷ slice_index c.end_word-5.result k ∷ slice_index c.end_word-6.result k
    ∷ slice_index c.end_word-7.result k ∷ slice_index c.end_word-8.result k ∷ [] in
    words_bytes values words at 8 (omega (arith, c.requires)) (λ i. (c.type_inv.values i).fits)
    (below_eight (λ (n : ℕ). slice_index words n ≡ word_at values (at + 4 * n)) (c.end_word.ensures k lt)
    (c.end_word-2.ensures k lt) (c.end_word-3.ensures k lt) (c.end_word-4.ensures k lt) (c.end_word-5.ensures k lt)
    (c.end_word-6.ensures k lt) (c.end_word-7.ensures k lt) (c.end_word-8.ensures k lt))
