use Rattle.std.proofs.Common.{◌≡◌, ◌++◌, take}
use Rattle.std.specs.Prelude.{string_bytes}
use Rattle.std.specs.List.{flat_map}
use Rattle.lane_pictures.specs.Drawing.{arrow_shown}
use Rattle.lane_pictures.proofs.arrows.put_arrows.Given as goal

-- the lines to the entries so far
abbrev pub invariant-loop-mark : goal.invariant-loop-mark
invariant-loop-mark l =
    string_bytes l.text
    ≡ string_bytes l.initial.text ++ flat_map (arrow_shown l.sheet l.range) (take l.mark-index l.marks)
