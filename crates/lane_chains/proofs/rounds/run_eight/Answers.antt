-- One round after the other, each with its constant and the word that the room has.
use Rattle.std.proofs.Common.{◌≡◌, ◌<◌, ◌+◌, ◌∙◌, [], ℕ, arith, refl, slice_index}
use Rattle.std.specs.Prelude.{slice_index_or}
use Rattle.sha2.specs.Sha256.{schedule}
use Rattle.lane_chains.proofs.LanesOneByOne.{column_at}
use Rattle.lane_chains.proofs.RoundsOneByOne.{rounds_to}
use Rattle.lane_chains.proofs.rounds.run_eight.Goals as goal

pub returns : goal.returns
returns c = λ j lt b h words begun.
    let t = c.args.t in
    let w = schedule b 48 in
    let room = c.args.room.now in
    let at : (k : ℕ) → k < t + 8 → slice_index (slice_index_or room k []) j ≡ slice_index w k =
    λ k below. column_at room k j ∙ words k below in
    let s1 = rounds_to h w _ t (t + 1) _ _ _ begun refl refl (at t (omega arith)) (c.round-v.ensures j lt) in
    let s2 = rounds_to h w _ (t + 1) (t + 2) _ _ _ s1 (omega arith) refl (at (t + 1) (omega arith)) (c.round-v-2.ensures j lt) in
    let s3 = rounds_to h w _ (t + 2) (t + 3) _ _ _ s2 (omega arith) refl (at (t + 2) (omega arith)) (c.round-v-3.ensures j lt) in
    let s4 = rounds_to h w _ (t + 3) (t + 4) _ _ _ s3 (omega arith) refl (at (t + 3) (omega arith)) (c.round-v-4.ensures j lt) in
    let s5 = rounds_to h w _ (t + 4) (t + 5) _ _ _ s4 (omega arith) refl (at (t + 4) (omega arith)) (c.round-v-5.ensures j lt) in
    let s6 = rounds_to h w _ (t + 5) (t + 6) _ _ _ s5 (omega arith) refl (at (t + 5) (omega arith)) (c.round-v-6.ensures j lt) in
    let s7 = rounds_to h w _ (t + 6) (t + 7) _ _ _ s6 (omega arith) refl (at (t + 6) (omega arith)) (c.round-v-7.ensures j lt) in
    rounds_to h w _ (t + 7) (t + 8) _ _ _ s7 (omega arith) refl (at (t + 7) (omega arith)) (c.round.ensures j lt)
