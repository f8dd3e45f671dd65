use Rattle.field_proxy.proofs.HistoryLaws.{after_happenings}
use Rattle.field_proxy.proofs.laws.writes_are_done.Goals as goal

pub returns : goal.returns
returns c = after_happenings
