-- Each master is one of them exactly where it isn't intruded.
use Rattle.scenario_file.specs.Reading.{contents}
use Rattle.run_questions.proofs.Watched.{masters_more, masters_begun, all_masters}
use Rattle.run_questions.proofs.delays.watching.correct_masters.Goals as goal

pub loop-master-init : goal.loop-master-init
loop-master-init c = masters_begun (contents c.args.scenario.now) c.new-masters.result.items
    c.new-masters.ensures.items

pub loop-master-preserved : goal.loop-master-preserved
loop-master-preserved c =
    masters_more (contents c.args.scenario.now) c.args.scenario.now.sizes.n c.loop-master.master _ _ _
    c.args.scenario.now.sizes.all c.loop-master-test.true c.loop-master.invariant c.if_correct.ensures
    c.in_ok-extend_option.ensures.ok

pub returns : goal.returns
returns c =
    all_masters (contents c.args.scenario.now) c.args.scenario.now.sizes.n c.loop-master.master _
    c.args.scenario.now.sizes.all c.loop-master.auto.master-end c.loop-master-test.false c.loop-master.invariant
