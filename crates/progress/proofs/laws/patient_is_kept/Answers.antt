use Rattle.progress.proofs.Kept.{patient_is_kept}
use Rattle.progress.proofs.laws.patient_is_kept.Goals as goal

pub returns : goal.returns
returns c = patient_is_kept
