use Rattle.std.proofs.Common.{◌≡◌, ◌++◌}
use Rattle.std.specs.Prelude.{string_bytes}
use Rattle.std.specs.List.{flat_map}
use Rattle.quorum_sets.specs.Masters.{numbers_below}
use Rattle.lane_pictures.specs.Drawing.{row_text}
use Rattle.lane_pictures.proofs.rows.put_rows.Given as goal

-- those so far are there
abbrev pub invariant-loop-row : goal.invariant-loop-row
invariant-loop-row l =
    string_bytes l.text
    ≡ string_bytes l.initial.text ++ flat_map (row_text l.cast l.sheet l.lanes) (numbers_below l.row)
