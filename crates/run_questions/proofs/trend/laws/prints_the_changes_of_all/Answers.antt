use Rattle.run_questions.proofs.TrendsAgree.{prints_all}
use Rattle.run_questions.proofs.trend.laws.prints_the_changes_of_all.Goals as goal

pub returns : goal.returns
returns c = prints_all
