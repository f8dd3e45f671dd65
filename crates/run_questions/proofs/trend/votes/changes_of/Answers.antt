-- The trend is the definition's for any number of screens, so its changes are too. The question is one that isn't
-- refused, so only want of memory is left.
use Rattle.std.proofs.lemmas.Result.{IfOk-weaker}
use Rattle.run_questions.proofs.VotesGathered.{only_want}
use Rattle.run_questions.proofs.trend.votes.changes_of.Goals as goal

pub returns-clause-found : goal.returns-clause-found
returns-clause-found c =
    IfOk-weaker c.changes.result _ _ (λ found h screens. h c.args.plant.now screens c.args.executed.now
    (c.in_ok-trend.ensures screens)) c.changes.ensures.found

pub returns-clause-want : goal.returns-clause-want
returns-clause-want c =
    only_want c.args.plant.now 0 c.args.executed.now c.in_ok-trend.trend c.args.question.point c.args.question.first
    c.args.question.last c.changes.result
    (c.in_ok-trend.ensures 0) c.requires.answered c.changes.ensures.answered
