-- With no part no master is wrong, and each part that is looked at adds its own.
use Rattle.std.proofs.Common.{◌∙◌, sym}
use Rattle.quorum_sets.proofs.MastersLemmas.{voters_none}
use Rattle.parity_parts.proofs.Wrongs.{wrong_more_taken}
use Rattle.parity_parts.proofs.rebuilding.wrong_masters.Goals as goal

pub loop-part-init : goal.loop-part-init
loop-part-init c = c.empty-wrong.ensures ∙ sym (voters_none 14)

pub loop-part-preserved : goal.loop-part-preserved
loop-part-preserved c =
    wrong_more_taken c.args.sizes.now.f c.args.text.now c.args.parts.now c.loop-part.part-index c.part-item.result
    c.loop-part.wrong c.add_if.new.masters c.in_ok-is_right.is_right c.loop-part-test.true c.part-item.is
    c.loop-part.invariant c.in_ok-is_right.ensures c.add_if.ensures
