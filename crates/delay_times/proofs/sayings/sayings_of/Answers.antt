use Rattle.delay_times.specs.Sayings.{said_at}
use Rattle.delay_times.proofs.Growing.{found_more, found_start}
use Rattle.delay_times.proofs.sayings.sayings_of.Goals as goal

pub loop-place-init : goal.loop-place-init
loop-place-init c = found_start (said_at c.args.happenings.now) c.new-sayings.result.items c.new-sayings.ensures.items

pub loop-place-preserved : goal.loop-place-preserved
loop-place-preserved c =
    found_more (said_at c.args.happenings.now) c.loop-place.place c.said_at.result c.loop-place.sayings.items _
    c.loop-place.invariant c.said_at.ensures c.in_ok-extend_option.ensures.ok
