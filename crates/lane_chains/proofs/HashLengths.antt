-- The length of a hash.
use Rattle.std.proofs.Common.{◌≡◌, ℕ, List, length}
use Rattle.sha2.proofs.Facts256.{length-sha256}
use Rattle.lane_chains.specs.Hash.{hash_under}

-- every hash has 32 bytes
pub length-hash_under : (id : List ℕ) (number tag : ℕ) (text : List ℕ) → length (hash_under id number tag text) ≡ 32
unfolding hash_under
length-hash_under id number tag text = length-sha256 _
