use Rattle.trend_archive.proofs.ShownLaws.{shown-where_supported}
use Rattle.trend_archive.proofs.laws.shown_where_supported.Goals as goal

pub returns : goal.returns
returns c = shown-where_supported
