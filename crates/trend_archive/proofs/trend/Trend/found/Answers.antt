use Rattle.std.proofs.Common.{◌∙◌}
use Rattle.trend_archive.proofs.TrendLaws.{found-items, same_question}
use Rattle.trend_archive.proofs.trend.Trend.found.Goals as goal

pub returns-clause-found : goal.returns-clause-found
returns-clause-found c = λ plant screens us t.
    same_question c.args.point c.args.first c.args.last _ _
    (c.in_ok-items.ensures ∙ found-items plant screens us c.args.self.now c.args.point c.args.first c.args.last _ _ t
    c.requires c.list.ensures c.between.ensures)
