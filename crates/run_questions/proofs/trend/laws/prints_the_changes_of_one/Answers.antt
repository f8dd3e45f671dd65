use Rattle.run_questions.proofs.TrendsAgree.{prints_one}
use Rattle.run_questions.proofs.trend.laws.prints_the_changes_of_one.Goals as goal

pub returns : goal.returns
returns c = prints_one
