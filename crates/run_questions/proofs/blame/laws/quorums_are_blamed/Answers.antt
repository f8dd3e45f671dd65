use Rattle.run_questions.proofs.BlameIsProof.{quorums_are_blamed}
use Rattle.run_questions.proofs.blame.laws.quorums_are_blamed.Goals as goal

pub returns : goal.returns
returns c = quorums_are_blamed
