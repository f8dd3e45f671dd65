use Rattle.progress.proofs.Impatient.{served_are_patient}
use Rattle.progress.proofs.laws.served_are_patient.Goals as goal

pub returns : goal.returns
returns c = served_are_patient
