use Rattle.std.proofs.Common.{◌≡◌, ◌++◌, take}
use Rattle.std.specs.Prelude.{string_bytes}
use Rattle.std.specs.List.{flat_map}
use Rattle.lane_pictures.specs.Drawing.{lane_text}
use Rattle.lane_pictures.proofs.rows.put_lanes.Given as goal

-- those so far have their lines
abbrev pub invariant-loop-lane : goal.invariant-loop-lane
invariant-loop-lane l =
    string_bytes l.text
    ≡ string_bytes l.initial.text ++ flat_map (lane_text l.cast l.sheet l.row) (take l.lane-index l.lanes)
