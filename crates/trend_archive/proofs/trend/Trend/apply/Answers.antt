use Rattle.std.proofs.lemmas.Result.{on_ok_weaker}
use Rattle.trend_archive.proofs.TrendLaws.{trend-step}
use Rattle.trend_archive.proofs.trend.Trend.apply.Goals as goal

pub returns-clause-ok : goal.returns-clause-ok
returns-clause-ok c = on_ok_weaker c.note.result
    (λ made plant screens us t. trend-step plant screens us c.args.update.now c.args.self.now c.note.new.self
    c.news-news.result c.news-news.ensures made t)
    c.note.ensures.ok
