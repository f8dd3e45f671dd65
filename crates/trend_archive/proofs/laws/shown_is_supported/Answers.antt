use Rattle.trend_archive.proofs.ShownLaws.{shown-is_supported}
use Rattle.trend_archive.proofs.laws.shown_is_supported.Goals as goal

pub returns : goal.returns
returns c = shown-is_supported
