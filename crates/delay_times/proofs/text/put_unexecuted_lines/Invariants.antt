use Rattle.std.proofs.Common.{◌≡◌, ◌++◌, take}
use Rattle.std.specs.Prelude.{string_bytes}
use Rattle.std.specs.List.{flat_map}
use Rattle.delay_times.specs.Texts.{unexecuted_line}
use Rattle.delay_times.proofs.text.put_unexecuted_lines.Given as goal

-- those so far have their lines
abbrev pub invariant-loop-update : goal.invariant-loop-update
invariant-loop-update l =
    string_bytes l.text ≡ string_bytes l.initial.text ++ flat_map (unexecuted_line l.cast) (take l.update-index l.unexecuted)
