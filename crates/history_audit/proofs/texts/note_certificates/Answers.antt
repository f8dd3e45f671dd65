-- The texts kept are those given before and those of the rows of the certificates gone over; each turn adds the
-- next certificate's.
use Rattle.std.proofs.Common.{◌++◌, map, take}
use Rattle.message_types.specs.declared.ordering.Certificate.{Certificate}
use Rattle.message_types.specs.Texts.{rows_text}
use Rattle.history_audit.specs.Texts.{AreTexts}
use Rattle.history_audit.proofs.Loops.{map_starts, map_step, map_whole}
use Rattle.history_audit.proofs.texts.note_certificates.Goals as goal

pub loop-certificate-init : goal.loop-certificate-init
loop-certificate-init c = λ given are. map_starts (λ ts. AreTexts ts c.args.kept.now)
    (λ (d : Certificate). rows_text d.rows) given c.args.certificates.now are

pub loop-certificate-preserved : goal.loop-certificate-preserved
loop-certificate-preserved c = λ given are.
    map_step (λ ts. AreTexts ts c.note_rows.new.kept) (λ (d : Certificate). rows_text d.rows)
    given c.args.certificates.now c.loop-certificate.certificate-index c.certificate-item.result
    c.loop-certificate-test.true c.certificate-item.is
    (c.in_ok-note_rows.ensures
    (given ++ map (λ (d : Certificate). rows_text d.rows)
    (take c.loop-certificate.certificate-index c.args.certificates.now)) (c.loop-certificate.invariant given are))

pub returns : goal.returns
returns c = λ given are. map_whole (λ ts. AreTexts ts c.loop-certificate.kept) (λ (d : Certificate). rows_text d.rows)
    given c.args.certificates.now c.loop-certificate.certificate-index c.loop-certificate-test.false
    (c.loop-certificate.invariant given are)
