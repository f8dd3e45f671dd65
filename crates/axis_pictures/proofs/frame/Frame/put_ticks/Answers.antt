use Rattle.std.specs.Prelude.{string_bytes}
use Rattle.delay_times.proofs.Growing.{below_more, below_start}
use Rattle.axis_pictures.specs.Frames.{tick_text}
use Rattle.axis_pictures.proofs.frame.Frame.put_ticks.Goals as goal

pub loop-tick-init : goal.loop-tick-init
loop-tick-init c = below_start (tick_text c.args.self c.args.first) (string_bytes c.args.text.now)

pub loop-tick-preserved : goal.loop-tick-preserved
loop-tick-preserved c =
    below_more (tick_text c.args.self c.args.first) c.loop-tick.tick (string_bytes c.args.text.now)
    (string_bytes c.loop-tick.text) _ c.loop-tick.invariant c.in_ok-put_tick.ensures
