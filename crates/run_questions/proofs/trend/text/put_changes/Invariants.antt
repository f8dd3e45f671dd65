use Rattle.std.proofs.Common.{◌≡◌, ◌++◌, take}
use Rattle.std.specs.Prelude.{string_bytes}
use Rattle.std.specs.List.{flat_map}
use Rattle.run_questions.specs.TrendText.{change_text}
use Rattle.run_questions.proofs.trend.text.put_changes.Given as goal

-- the changes so far have their lines
abbrev pub invariant-loop-change : goal.invariant-loop-change
invariant-loop-change l = string_bytes l.text ≡ string_bytes l.initial.text
    ++ flat_map change_text (take l.change-index l.changes)
