use Rattle.run_questions.proofs.PrintedRebuild.{certified_have_own_digests}
use Rattle.run_questions.proofs.parts.laws.certified_have_own_digests.Goals as goal

pub returns : goal.returns
returns c = certified_have_own_digests
