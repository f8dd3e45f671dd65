-- The four words are read one behind the other, so that their bytes are the identifier's sixteen.
use Rattle.std.proofs.Common.{◌≡◌, ◌+◌, ◌*◌, ◌∙◌, ℕ, [], ◌∷◌, arith, slice_index}
use Rattle.std.proofs.lemmas.List.{take_all}
use Rattle.sha2.specs.Sha256.{word_at}
use Rattle.lane_chains.proofs.LanesOneByOne.{below_four}
use Rattle.lane_chains.proofs.BytesAsWords.{words_bytes}
use Rattle.lane_chains.proofs.words.id_words.Goals as goal

pub returns : goal.returns
returns c =
    let id = c.args.id.now in
    let words = c.load_be.result ∷ c.load_be-2.result ∷ c.load_be-3.result ∷ c.load_be-4.result ∷ [] in
    words_bytes id words 0 4 (omega arith) c.fits-id
    (below_four (λ (k : ℕ). slice_index words k ≡ word_at id (0 + 4 * k)) c.load_be.ensures c.load_be-2.ensures
    c.load_be-3.ensures c.load_be-4.ensures)
    ∙ take_all 16 id (omega arith)
