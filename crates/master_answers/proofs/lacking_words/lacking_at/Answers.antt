use Rattle.master_answers.proofs.lacking_words.lacking_at.Goals as goal

pub returns-clause-requests_lacking : goal.returns-clause-requests_lacking
returns-clause-requests_lacking c g me taken known past said k tick caught at =
    c.in_ok-requests.ensures.lacking g me taken known past said k caught at

pub returns-clause-numbers_lacking : goal.returns-clause-numbers_lacking
returns-clause-numbers_lacking c g me taken known past said k tick =
    c.in_ok-numbers.ensures.lacking g me taken known past said k
