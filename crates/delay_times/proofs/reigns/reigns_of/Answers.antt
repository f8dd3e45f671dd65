use Rattle.std.proofs.Common.{◌∙◌, ap, List}
use Rattle.delay_times.specs.declared.reigns.Begun.{Begun}
use Rattle.delay_times.specs.Reigns.{reign_at}
use Rattle.delay_times.proofs.Growing.{found_more, found_start}
use Rattle.delay_times.proofs.reigns.reigns_of.Goals as goal

pub loop-place-init : goal.loop-place-init
loop-place-init c =
    found_start (reign_at c.args.happenings.now c.args.masters.now c.args.entries c.in_ok-begun.begun.items)
    c.new-reigns.result.items c.new-reigns.ensures.items

pub loop-place-preserved : goal.loop-place-preserved
loop-place-preserved c =
    found_more (reign_at c.args.happenings.now c.args.masters.now c.args.entries c.in_ok-begun.begun.items)
    c.loop-place.place c.reign_at-reign.result c.loop-place.reigns.items _ c.loop-place.invariant
    (c.reign_at-reign.ensures
    ∙ ap (λ (bs : List Begun). reign_at c.args.happenings.now c.args.masters.now c.args.entries bs c.loop-place.place)
    c.as_slice.ensures.value)
    c.in_ok-extend_option.ensures.ok
