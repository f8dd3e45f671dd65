-- Each lane has the identifier's words, and so its bytes.
use Rattle.std.proofs.Common.{refl}
use Rattle.sha2.specs.Sha256.{digest_bytes}
use Rattle.lane_chains.proofs.steps.same_id.Goals as goal

pub returns-clause-words : goal.returns-clause-words
returns-clause-words c j lt =
    rw (c.splat.ensures j lt, c.splat-2.ensures j lt, c.splat-3.ensures j lt, c.splat-4.ensures j lt) refl

pub returns-clause-bytes : goal.returns-clause-bytes
unfolding digest_bytes
returns-clause-bytes c j lt =
    rw (c.splat.ensures j lt, c.splat-2.ensures j lt, c.splat-3.ensures j lt, c.splat-4.ensures j lt) refl
