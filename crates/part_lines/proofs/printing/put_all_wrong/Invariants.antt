use Rattle.std.proofs.Common.{◌≡◌, ◌++◌, [], if◌then◌else◌}
use Rattle.std.specs.Prelude.{string_bytes}
use Rattle.std.specs.List.{flat_map}
use Rattle.quorum_sets.specs.Masters.{has_master, numbers_below}
use Rattle.part_lines.specs.Texts.{line_of, wrong_words}
use Rattle.part_lines.proofs.Wrong.{line_if}
use Rattle.part_lines.proofs.printing.put_all_wrong.Given as goal

-- the wrong masters so far have their lines
abbrev pub invariant-loop-master : goal.invariant-loop-master
invariant-loop-master l = string_bytes l.text ≡ string_bytes l.initial.text
    ++ flat_map (line_if l.wrong) (numbers_below l.master)
