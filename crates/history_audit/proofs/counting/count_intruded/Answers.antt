-- The count so far is how many of the masters below are intruded; each turn adds one where the next master is.
use Rattle.std.proofs.Common.{◌∙◌, ap, sym, arith, length, cond, ℕ, Bool}
use Rattle.quorum_sets.specs.Masters.{voters, has_master}
use Rattle.quorum_sets.proofs.MastersLemmas.{voters-zero}
use Rattle.history_audit.proofs.Whole.{intruded_more}
use Rattle.history_audit.proofs.counting.count_intruded.Goals as goal

pub loop-master-init : goal.loop-master-init
loop-master-init c = (omega arith, sym (ap length (voters-zero (has_master c.args.scenario.now.intruded))))

pub loop-master-preserved : goal.loop-master-preserved
loop-master-preserved c = (
  omega (arith, c.one_if-count.ensures.most, c.loop-master.invariant.0),
  intruded_more (has_master c.args.scenario.now.intruded) c.loop-master.master c.loop-master.count
      c.one_if-count.result c.loop-master.invariant.1
      (c.one_if-count.ensures.one ∙ ap (λ (b : Bool). cond b 1 0) c.has.ensures),
)

pub returns : goal.returns
returns c = c.loop-master.invariant.1 ∙ ap (λ (n : ℕ). length (voters (has_master c.args.scenario.now.intruded) n))
    (omega arith)
