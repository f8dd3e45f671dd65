use Rattle.std.specs.Prelude.{string_bytes}
use Rattle.delay_times.proofs.Growing.{below_more, below_start}
use Rattle.lane_pictures.specs.Drawing.{row_text}
use Rattle.lane_pictures.proofs.rows.put_rows.Goals as goal

pub loop-row-init : goal.loop-row-init
loop-row-init c = below_start (row_text c.args.cast c.args.sheet c.args.lanes.now) (string_bytes c.args.text.now)

pub loop-row-preserved : goal.loop-row-preserved
loop-row-preserved c =
    below_more (row_text c.args.cast c.args.sheet c.args.lanes.now) c.loop-row.row (string_bytes c.args.text.now)
    (string_bytes c.loop-row.text) _ c.loop-row.invariant c.in_ok-put_row.ensures
