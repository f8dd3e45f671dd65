use Rattle.std.proofs.Common.{◌≡◌, ◌++◌, take}
use Rattle.std.specs.Prelude.{string_bytes}
use Rattle.std.specs.List.{flat_map}
use Rattle.run_page.specs.Lists.{row_text}
use Rattle.run_page.proofs.lists.put_rows.Given as goal

-- those so far are told
abbrev pub invariant-loop-frame : goal.invariant-loop-frame
invariant-loop-frame l = string_bytes l.text ≡ string_bytes l.initial.text ++ flat_map (row_text l.cast) (take l.frame-index l.frames)
