-- The deliveries so far and those left are together all that waited. What was due stays so, because entries
-- only grow in number, so each of them can be made when its turn comes.
use Rattle.std.proofs.Common.{◌≡◌, ◌+◌, drop, arith}
use Rattle.std.proofs.lemmas.Result.{err_from_is_err_and}
use Rattle.scenario_file.specs.Reading.{contents}
use Rattle.run_scripts.specs.Making.{deliver, deliver_all}
use Rattle.run_scripts.specs.Playing.{given_in, is_due}
use Rattle.run_scripts.proofs.DoneAndLeft.{starts, list_on, list_stops, list_ends}
use Rattle.run_scripts.proofs.Lists.{all_left}
use Rattle.run_scripts.proofs.DueStays.{due_after}
use Rattle.run_scripts.proofs.PlaySteps.{deliveries_more, deliveries_end}
use Rattle.run_scripts.proofs.steps.deliver_all.Goals as goal

pub loop-delivery-init : goal.loop-delivery-init
loop-delivery-init c = (
  c.requires.due,
  starts (given_in c.args.world.now) (deliver_all (given_in c.args.world.now) c.args.waiting.now)
      c.args.playing.now c.requires.playing,
)

pub deliver-requires-clause-playing : goal.deliver-requires-clause-playing
deliver-requires-clause-playing c = c.loop-delivery.invariant.1.playing

pub deliver-requires-clause-due : goal.deliver-requires-clause-due
deliver-requires-clause-due c =
    (all_left (is_due (contents c.args.world.now.scenario.now) c.loop-delivery.playing.entries)
    c.args.waiting.now c.loop-delivery.delivery-index c.delivery-item.result
    c.loop-delivery-test.true c.delivery-item.is c.loop-delivery.invariant.0).0

pub loop-delivery-preserved : goal.loop-delivery-preserved
loop-delivery-preserved c = (
  due_after (given_in c.args.world.now) c.delivery-item.result c.loop-delivery.playing c.deliver.new.playing
      (drop (c.loop-delivery.delivery-index + 1) c.args.waiting.now)
      c.loop-delivery.invariant.1.playing c.in_ok-deliver.ensures
      (all_left (is_due (contents c.args.world.now.scenario.now) c.loop-delivery.playing.entries)
      c.args.waiting.now c.loop-delivery.delivery-index c.delivery-item.result
      c.loop-delivery-test.true c.delivery-item.is c.loop-delivery.invariant.0),
  list_on (deliver_all (given_in c.args.world.now)) (deliver (given_in c.args.world.now))
      (deliveries_more (given_in c.args.world.now))
      c.args.waiting.now c.loop-delivery.delivery-index c.delivery-item.result c.loop-delivery-test.true
      c.delivery-item.is c.loop-delivery.invariant.1 c.in_ok-deliver.ensures,
)

pub returns-in_err-deliver : goal.returns-in_err-deliver
returns-in_err-deliver c =
    let p = err_from_is_err_and c.from_residual.result c.from_residual.ensures.1 in
    list_stops c.deliver.new.playing (deliver_all (given_in c.args.world.now)) (deliver (given_in c.args.world.now))
    (deliveries_more (given_in c.args.world.now))
    c.args.waiting.now c.loop-delivery.delivery-index c.delivery-item.result
    c.loop-delivery-test.true c.delivery-item.is
    c.from_residual.result c.in_err-deliver.field-0.0 p.0 p.1 p.2 c.loop-delivery.invariant.1 c.in_err-deliver.ensures

pub returns : goal.returns
returns c =
    list_ends (deliver_all (given_in c.args.world.now)) (deliveries_end (given_in c.args.world.now))
    c.args.waiting.now c.loop-delivery.delivery-index (omega arith) c.loop-delivery.invariant.1
