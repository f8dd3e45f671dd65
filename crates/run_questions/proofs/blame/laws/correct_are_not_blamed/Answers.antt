use Rattle.run_questions.proofs.BlameIsProof.{correct_are_not_blamed}
use Rattle.run_questions.proofs.blame.laws.correct_are_not_blamed.Goals as goal

pub returns : goal.returns
returns c = correct_are_not_blamed
