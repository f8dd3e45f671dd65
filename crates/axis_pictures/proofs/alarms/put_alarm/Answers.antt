-- Each update changes the alarm's state by the reading that it is, if it is one, and the change is told at its place.
use Rattle.std.proofs.Common.{◌++◌, ◌∙◌, ap, arith}
use Rattle.std.specs.Prelude.{string_bytes}
use Rattle.alarm_rules.specs.Alarm.{is_raised}
use Rattle.axis_pictures.specs.Plots.{alarm_after, alarm_left, alarm_turn, turn_text}
use Rattle.axis_pictures.proofs.Turned.{no_turn, one_turn}
use Rattle.axis_pictures.proofs.alarms.put_alarm.Goals as goal

pub loop-place-preserved : goal.loop-place-preserved
loop-place-preserved c =
    let next = c.state_after-next.ensures ∙ ap (alarm_after c.args.alarm.now c.loop-place.state) c.heard.ensures in
    one_turn (alarm_turn c.args.frame c.args.number c.args.point.now c.args.alarm.now)
    (alarm_left c.args.number c.args.point.now c.args.alarm.now) c.args.executed.now c.loop-place.place _
    c.loop-place.state _ (string_bytes c.loop-place.text) _ _ c.loop-place-test.true
    (c.in_ok-put_turn.ensures
    ∙ ap (λ s. string_bytes c.loop-place.text
    ++ turn_text c.args.frame c.loop-place.place (is_raised c.loop-place.state) (is_raised s)) next)
    next c.loop-place.invariant

pub returns : goal.returns
returns c =
    no_turn (alarm_turn c.args.frame c.args.number c.args.point.now c.args.alarm.now)
    (alarm_left c.args.number c.args.point.now c.args.alarm.now) c.args.executed.now c.loop-place.place
    c.loop-place.state (string_bytes c.loop-place.text) _ (omega arith) c.loop-place.invariant
