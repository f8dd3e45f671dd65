use Rattle.std.proofs.Common.{arith}
use Rattle.run_lines.specs.Texts.{notice_text}
use Rattle.run_lines.proofs.Parts.{lines-more-at, lines-end}
use Rattle.run_lines.proofs.heads.put_notices.Goals as goal

pub returns : goal.returns
returns c = lines-end notice_text _ _ c.args.notices.now _ _ (omega arith) c.loop-place.invariant

pub loop-place-preserved : goal.loop-place-preserved
loop-place-preserved c =
    lines-more-at notice_text c.loop-place.place c.args.notices.now _ _ _ _ (omega arith)
    c.loop-place.invariant c.in_ok-put_notice.ensures
