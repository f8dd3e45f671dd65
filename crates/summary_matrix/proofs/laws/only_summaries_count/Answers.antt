use Rattle.summary_matrix.proofs.Latest.{latest-summaries, matrix-summaries, matrix-others}
use Rattle.summary_matrix.proofs.laws.only_summaries_count.Goals as goal

pub returns-clause-latest : goal.returns-clause-latest
returns-clause-latest c = latest-summaries

pub returns-clause-matrix : goal.returns-clause-matrix
returns-clause-matrix c = matrix-summaries

pub returns-clause-others : goal.returns-clause-others
returns-clause-others c = matrix-others
