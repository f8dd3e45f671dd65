use Rattle.run_questions.proofs.TrendsAgree.{always_matches}
use Rattle.run_questions.proofs.trend.laws.always_matches.Goals as goal

pub returns : goal.returns
returns c = always_matches
