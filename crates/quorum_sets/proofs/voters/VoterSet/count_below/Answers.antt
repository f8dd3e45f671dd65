-- The count so far is how many marks stand before the master looked at. It is below 16, so no sum overflows,
-- and counted up to the most masters there can be it is the size of the set.
use Rattle.std.proofs.Common.{◌+◌, ◌≡◌, ◌<◌, ◌≤◌, false, length, get_or, sym, ◌∙◌, ap, arith}
use Rattle.quorum_sets.specs.Masters.{has_master, voters}
use Rattle.quorum_sets.proofs.MastersLemmas.{count_start, count_step, count_fits, voters-again}
use Rattle.quorum_sets.proofs.voters.VoterSet.count_below.Goals as goal

pub loop-master-init : goal.loop-master-init
loop-master-init c = count_start (λ m. get_or c.self.inside.marked m false)

pub overflow_add-count : goal.overflow_add-count
overflow_add-count c =
    let few : c.loop-master.count + c.from-count.result < 16 = count_fits (λ m. get_or c.self.inside.marked m false)
    _ _ _ c.loop-master.invariant c.from-count.ensures (omega arith) in
    omega arith

pub loop-master-preserved : goal.loop-master-preserved
loop-master-preserved c = count_step (λ m. get_or c.self.inside.marked m false)
    _ _ _ c.loop-master.invariant c.from-count.ensures

pub returns-clause-below : goal.returns-clause-below
returns-clause-below c =
    let ended : c.loop-master.master ≡ c.args.n = omega arith in
    let le : c.args.n ≤ 14 = c.requires in
    c.loop-master.invariant ∙ ap (λ k. length (voters (λ m. get_or c.self.inside.marked m false) k)) ended
    ∙ ap length (sym (voters-again (λ m. get_or c.self.inside.marked m false) 14 c.args.n le))
    ∙ ap (λ ms. length (voters (has_master ms) c.args.n)) c.self.view_is

pub returns-clause-all : goal.returns-clause-all
returns-clause-all c whole =
    let ended : c.loop-master.master ≡ 14 = omega arith in
    c.loop-master.invariant ∙ ap (λ k. length (voters (λ m. get_or c.self.inside.marked m false) k)) ended
    ∙ ap length c.self.view_is
