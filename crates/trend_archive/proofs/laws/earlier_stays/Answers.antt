use Rattle.trend_archive.proofs.TrendLaws.{earlier-stays}
use Rattle.trend_archive.proofs.laws.earlier_stays.Goals as goal

pub returns : goal.returns
returns c = earlier-stays
