use Rattle.std.proofs.Common.{◌∙◌}
use Rattle.suspect_leader.proofs.Told.{told_is}
use Rattle.suspect_leader.proofs.tables.told.Goals as goal

pub returns : goal.returns
returns c = c.copied.ensures ∙ c.get.ensures.value ∙ told_is c.args.table.now.entries c.args.v c.args.master
