-- One step up joins the node with the hash that begins the path, and an odd last node goes up alone, as in the
-- definition; the step below it does the rest.
use Rattle.std.proofs.Common.{◌≤◌, ◌<◌, length, arith}
use Rattle.checked_frames.specs.Groups.{sibling}
use Rattle.checked_frames.proofs.GroupSteps.{led_to_up}
use Rattle.checked_frames.proofs.groups.+led_to.Goals as goal

pub returns : goal.returns
returns t c =
    let some : 1 ≤ c.args.levels = omega arith in
    let same = c.sibling.ensures.value in
    let below : sibling c.args.place < c.args.count = omega arith in
    let enough : 32 ≤ length c.args.path.now = omega arith in
    let up = led_to_up c.args.levels c.args.count c.args.place c.args.here.now c.args.path.now some below enough in
    cc (
      up,
      c.led_to-2.ensures,
      c.parent_hash.ensures,
      c.copy_from_slice.ensures.after,
      c.split_at.ensures.front,
      c.split_at.ensures.back,
    )
