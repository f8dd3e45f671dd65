use Rattle.checked_frames.proofs.VerifyingLaws.{verifies_answer}
use Rattle.checked_frames.proofs.signing.hss_verifies.Goals as goal

pub returns : goal.returns
returns g c = verifies_answer c.args.public.now c.args.text.now c.args.sig.now c.verify_by.result c.verify_by.ensures
