use Rattle.run_questions.proofs.TrendsAgree.{not_reached_where_few}
use Rattle.run_questions.proofs.trend.laws.is_not_reached_where_few.Goals as goal

pub returns : goal.returns
returns c = not_reached_where_few
