-- Reading leaves the device as it is: so the readings so far are those due of the points gone over, and the
-- line has had their exchanges.
use Rattle.std.proofs.Common.{arith, ap, ◌∙◌, ◌≡◌, length, take}
use Rattle.std.proofs.Math.Seq.{take-length}
use Rattle.field_proxy.specs.Exchanges.{line_after}
use Rattle.field_proxy.specs.Readings.{poll_requests, readings, last_in}
use Rattle.vouched_orders.proofs.TallyLaws.{on_err}
use Rattle.field_proxy.proofs.BeginningLaws.{reads_begun}
use Rattle.field_proxy.proofs.LineLaws.{line_reads_more}
use Rattle.field_proxy.proofs.ReadingLaws.{readings_below, reading_more}
use Rattle.field_proxy.proofs.readings.due_readings.Goals as goal

pub loop-number-preserved : goal.loop-number-preserved
loop-number-preserved c = record {
  device_stays = c.in_ok-add_reading.ensures.same ∙ c.loop-number.invariant.device_stays;
  line_is = line_reads_more c.args.line.now c.loop-number.line _ c.args.device.now c.loop-number.device c.args.client
      c.args.points.now c.loop-number.number c.index-points-number.result
      c.loop-number-test.true c.index-points-number.is c.loop-number.invariant.device_stays
      c.loop-number.invariant.line_is c.in_ok-add_reading.ensures.line;
  read = reading_more c.args.device.now c.loop-number.device c.args.client c.loop-number.number c.args.points.now
      c.args.lasts.now c.index-points-number.result _
      c.loop-number.ops.items _ c.index-points-number.is c.loop-number-test.true c.requires.lasts
      c.loop-number.invariant.device_stays c.loop-number.invariant.read
      c.in_ok-add_reading.ensures.ops;
}

pub returns-clause-line : goal.returns-clause-line
returns-clause-line c =
    let all : c.loop-number.number ≡ length c.args.points.now = omega arith in
    c.loop-number.invariant.line_is
    ∙ ap (λ ps. line_after c.args.line.now c.args.device.now (poll_requests c.args.client ps))
    (ap (λ n. take n c.args.points.now) all ∙ take-length c.args.points.now)

pub returns-clause-ops : goal.returns-clause-ops
unfolding readings
returns-clause-ops c =
    let all : c.loop-number.number ≡ length c.args.points.now = omega arith in
    c.loop-number.invariant.read
    ∙ ap (readings_below c.args.device.now c.args.client c.args.points.now (last_in c.args.lasts.now)) all

pub returns-in_err-add_reading-clause-begun : goal.returns-in_err-add_reading-clause-begun
returns-in_err-add_reading-clause-begun c = on_err c.from_residual.result
    (reads_begun c.args.line.now c.loop-number.line _ c.args.device.now c.loop-number.device c.args.client
    c.args.points.now c.loop-number.number c.index-points-number.result
    c.loop-number-test.true c.index-points-number.is c.loop-number.invariant.device_stays
    c.loop-number.invariant.line_is c.in_err-add_reading.ensures.begun)
