-- The count so far is how many masters before the one looked at gave the answer. There are fewer than 15
-- masters, so no sum overflows.
use Rattle.std.proofs.Common.{ℕ, ◌+◌, ◌*◌, ◌≡◌, ◌<◌, ◌≤◌, length, ◌∙◌, ap, arith}
use mir.Val.{bool_byte}
use Rattle.quorum_sets.specs.Masters.{voters}
use Rattle.quorum_sets.proofs.MastersLemmas.{count_start, count_step, count_fits}
use Rattle.trend_archive.specs.Boards.{has_vote, supporters}
use Rattle.trend_archive.proofs.board.count_supporters.Goals as goal

pub loop-master-init : goal.loop-master-init
loop-master-init c = count_start (has_vote c.args.votes.now c.args.changes.now)

pub overflow_add-count : goal.overflow_add-count
overflow_add-count c =
    let one : c.from-count.result ≡ bool_byte (has_vote c.args.votes.now c.args.changes.now c.loop-master.master) =
    cc in
    let small : c.args.sizes.now.n < 15 =
    group_small c.args.sizes.now.f c.args.sizes.now.k c.args.sizes.now.group.at_most_three_intruded
    c.args.sizes.now.group.at_most_two_away c.args.sizes.now.n c.args.sizes.now.all in
    let few : c.loop-master.count + c.from-count.result < 16 =
    count_fits (has_vote c.args.votes.now c.args.changes.now) _ _ _ c.loop-master.invariant one (omega arith) in
    omega arith
  where
    group_small : (f k : ℕ) → f ≤ 3 → k ≤ 2 → (n : ℕ) → n ≡ 3 * f + 2 * k + 1 → n < 15
    group_small f k few away n e = omega arith

pub loop-master-preserved : goal.loop-master-preserved
loop-master-preserved c =
    let one : c.from-count.result ≡ bool_byte (has_vote c.args.votes.now c.args.changes.now c.loop-master.master) =
    cc in
    count_step (has_vote c.args.votes.now c.args.changes.now) _ _ _ c.loop-master.invariant one

pub returns : goal.returns
unfolding supporters
returns c =
    let ended : c.loop-master.master ≡ c.args.sizes.now.n = omega arith in
    c.loop-master.invariant ∙ ap (λ k. length (voters (has_vote c.args.votes.now c.args.changes.now) k)) ended
