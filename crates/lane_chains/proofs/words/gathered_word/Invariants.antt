use Rattle.std.proofs.Common.{◌≡◌, ◌+◌, ◌*◌, ℕ, ◌<◌, length, slice_index}
use Rattle.sha2.specs.Sha256.{word_at}
use Rattle.lane_chains.proofs.words.gathered_word.Given as goal

abbrev pub invariant-lanes : goal.invariant-lanes
invariant-lanes l =
    (length l.words ≡ 8)
    × ((m : ℕ) → m < l.j → slice_index l.words m ≡ word_at l.values (32 * slice_index l.group m + 4 * l.k))
