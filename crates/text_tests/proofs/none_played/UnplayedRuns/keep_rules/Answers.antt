use Rattle.text_tests.proofs.Unplayed.{unplayed_keeps}
use Rattle.text_tests.proofs.none_played.UnplayedRuns.keep_rules.Goals as goal

pub returns : goal.returns
returns c = unplayed_keeps
