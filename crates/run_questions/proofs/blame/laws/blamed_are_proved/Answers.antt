use Rattle.run_questions.proofs.BlameIsProof.{blamed_are_proved}
use Rattle.run_questions.proofs.blame.laws.blamed_are_proved.Goals as goal

pub returns : goal.returns
returns c = blamed_are_proved
