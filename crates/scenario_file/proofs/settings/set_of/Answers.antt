use Rattle.std.proofs.Common.{sym, ◌∙◌}
use Rattle.scenario_file.proofs.SettingsLaws.{set_of-none, set_of-more}
use Rattle.scenario_file.proofs.settings.set_of.Goals as goal

pub loop-master-init : goal.loop-master-init
loop-master-init c = c.empty-set.ensures ∙ sym set_of-none

pub loop-master-preserved : goal.loop-master-preserved
loop-master-preserved c = set_of-more c.args.masters.now c.loop-master.master-index c.loop-master.set
    c.add-was_new.new.self c.loop-master-test.true c.loop-master.invariant c.add-was_new.ensures.added
