-- Two quorums have 2q members among n masters, so at least 2q - n of them are shared, and with n = 3f + 2k + 1
-- and q = 2f + k + 1 that is f + 1. The count itself goes over all masters once.
use Rattle.std.proofs.Common.{ℕ, ◌+◌, ◌≡◌, ◌<◌, ◌≤◌, ◌&&◌, length, ◌∙◌, ap, arith}
use Rattle.quorum_sets.specs.Masters.{has_master, voters}
use Rattle.quorum_sets.proofs.MastersLemmas.{count_start, count_step, count_fits, voters_meet}
use Rattle.std.proofs.Common.{◌*◌}
use mir.Val.{bool_byte}
use Rattle.quorum_sets.proofs.laws.meet.Goals as goal

pub loop-master-init : goal.loop-master-init
loop-master-init c = count_start (λ x. has_master c.args.a.now x && has_master c.args.b.now x)

pub overflow_add-count : goal.overflow_add-count
overflow_add-count c =
    let one : c.from-count.result ≡ bool_byte (has_master c.args.a.now c.loop-master.master
    && has_master c.args.b.now c.loop-master.master) = cc in
    let small : c.args.sizes.now.n < 15 =
    group_small c.args.sizes.now.f c.args.sizes.now.k c.args.sizes.now.group.at_most_three_intruded
    c.args.sizes.now.group.at_most_two_away c.args.sizes.now.n c.args.sizes.now.all in
    let few : c.loop-master.count + c.from-count.result < 16 =
    count_fits (λ x. has_master c.args.a.now x && has_master c.args.b.now x)
    _ _ _ c.loop-master.invariant one (omega arith) in
    omega arith
  where
    group_small : (f k : ℕ) → f ≤ 3 → k ≤ 2 → (n : ℕ) → n ≡ 3 * f + 2 * k + 1 → n < 15
    group_small f k few away n e = omega arith

pub loop-master-preserved : goal.loop-master-preserved
loop-master-preserved c =
    let one : c.from-count.result ≡ bool_byte (has_master c.args.a.now c.loop-master.master
    && has_master c.args.b.now c.loop-master.master) = cc in
    count_step (λ x. has_master c.args.a.now x && has_master c.args.b.now x) _ _ _ c.loop-master.invariant one

pub returns-clause-number : goal.returns-clause-number
returns-clause-number c =
    let ended : c.loop-master.master ≡ c.args.sizes.now.n = omega arith in
    c.loop-master.invariant ∙ ap
    (λ k. length (voters (λ x. has_master c.args.a.now x && has_master c.args.b.now x) k)) ended

pub returns-clause-enough : goal.returns-clause-enough
returns-clause-enough c =
    let ended : c.loop-master.master ≡ c.args.sizes.now.n = omega arith in
    let number : c.loop-master.count ≡ length (voters (λ x. has_master c.args.a.now x && has_master c.args.b.now x)
    c.args.sizes.now.n) = c.loop-master.invariant
    ∙ ap (λ k. length (voters (λ x. has_master c.args.a.now x && has_master c.args.b.now x) k)) ended in
    enough c.args.sizes.now.f c.args.sizes.now.k c.args.sizes.now.n c.args.sizes.now.q c.args.sizes.now.all
    c.args.sizes.now.quorum _ _ _ (voters_meet (has_master c.args.a.now) (has_master c.args.b.now)
    c.args.sizes.now.n) c.requires.first c.requires.second c.loop-master.count number
  where
    enough : (f k n q : ℕ) → n ≡ 3 * f + 2 * k + 1 → q ≡ 2 * f + k + 1 → (a b both : ℕ) → a + b ≤ n + both → q ≤ a →
        q ≤ b → (count : ℕ) → count ≡ both → f + 1 ≤ count
    enough f k n q en eq a b both meet fa fb count e = omega arith
