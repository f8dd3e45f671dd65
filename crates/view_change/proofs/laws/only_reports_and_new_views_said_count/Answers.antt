use Rattle.view_change.proofs.Others.{said_alone}
use Rattle.view_change.proofs.laws.only_reports_and_new_views_said_count.Goals as goal

pub returns : goal.returns
returns c = said_alone
