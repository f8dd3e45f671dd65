use Rattle.std.proofs.Common.{◌≡◌, ◌++◌, take}
use Rattle.std.specs.Prelude.{string_bytes}
use Rattle.std.specs.List.{flat_map}
use Rattle.lane_pictures.specs.Drawing.{view_shown}
use Rattle.lane_pictures.proofs.bands.put_views.Given as goal

-- the numbers at the entries so far
abbrev pub invariant-loop-mark : goal.invariant-loop-mark
invariant-loop-mark l =
    string_bytes l.text
    ≡ string_bytes l.initial.text ++ flat_map (view_shown l.sheet l.range) (take l.mark-index l.marks)
