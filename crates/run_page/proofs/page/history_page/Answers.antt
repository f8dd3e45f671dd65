-- A history of fewer than 2^32 entries in all has as few of each actor.
use Rattle.history_audit.proofs.FewEach.{few_each_below}
use Rattle.run_page.proofs.page.history_page.Goals as goal

pub write_run_of-requires-clause-few : goal.write_run_of-requires-clause-few
write_run_of-requires-clause-few c = few_each_below c.args.history.now c.requires.short
