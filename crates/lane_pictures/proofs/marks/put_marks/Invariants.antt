use Rattle.std.proofs.Common.{◌≡◌, ◌++◌, take}
use Rattle.std.specs.Prelude.{string_bytes}
use Rattle.std.specs.List.{flat_map}
use Rattle.lane_pictures.specs.Drawing.{shown_text}
use Rattle.lane_pictures.proofs.marks.put_marks.Given as goal

-- the entries so far are shown
abbrev pub invariant-loop-mark : goal.invariant-loop-mark
invariant-loop-mark l =
    string_bytes l.text
    ≡ string_bytes l.initial.text ++ flat_map (shown_text l.cast l.sheet l.range) (take l.mark-index l.marks)
