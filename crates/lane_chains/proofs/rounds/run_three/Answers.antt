use Rattle.std.proofs.Common.{◌≡◌, ◌<◌, ◌∙◌, [], ℕ, arith, refl, slice_index}
use Rattle.std.specs.Prelude.{slice_index_or}
use Rattle.sha2.specs.Sha256.{schedule}
use Rattle.lane_chains.proofs.LanesOneByOne.{column_at}
use Rattle.lane_chains.proofs.RoundsOneByOne.{rounds_to}
use Rattle.lane_chains.proofs.rounds.run_three.Goals as goal

pub returns : goal.returns
returns c = λ j lt b h words begun.
    let w = schedule b 48 in
    let room = c.args.room.now in
    let at : (k : ℕ) → k < 16 → slice_index (slice_index_or room k []) j ≡ slice_index w k =
    λ k below. column_at room k j ∙ words k below in
    let s6 = rounds_to h w _ 5 6 _ _ _ begun refl refl (at 5 (omega arith)) (c.round-v.ensures j lt) in
    let s7 = rounds_to h w _ 6 7 _ _ _ s6 refl refl (at 6 (omega arith)) (c.round-v-2.ensures j lt) in
    rounds_to h w _ 7 8 _ _ _ s7 refl refl (at 7 (omega arith)) (c.round.ensures j lt)
