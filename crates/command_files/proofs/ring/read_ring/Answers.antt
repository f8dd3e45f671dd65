-- Line by line the text is read so far, each line the next actor's.
use Rattle.std.proofs.Common.{◌∙◌}
use Rattle.command_files.proofs.Rings.{at_the_start, one_cut, one_further}
use Rattle.command_files.proofs.ring.read_ring.Goals as goal

pub loop-actor-init : goal.loop-actor-init
loop-actor-init c = at_the_start c.args.cast c.args.text.now c.new-ring.result c.new-ring.ensures

pub loop-actor-preserved : goal.loop-actor-preserved
loop-actor-preserved c =
    one_further c.args.cast c.args.text.now c.loop-actor.actor c.loop-actor.ring c.cut_line.new.ring
    c.loop-actor.rest.now c.in-Some.after.now c.as_str.result.now c.loop-actor.invariant
    (c.as_str.ensures ∙ c.in_ok-name.ensures)
    (one_cut c.as_str.result.now c.loop-actor.rest.now c.loop-actor.ring c.cut_line.new.ring c.in_ok-after.field-0
    c.in-Some.after c.in-Some.is c.in_ok-after.ensures)
