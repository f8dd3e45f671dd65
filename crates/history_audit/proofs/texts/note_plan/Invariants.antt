use Rattle.std.proofs.Common.{ℕ, List, ◌++◌, map, take}
use Rattle.message_types.specs.Texts.{rows_text}
use Rattle.history_audit.specs.Texts.{AreTexts}
use Rattle.history_audit.proofs.texts.note_plan.Given as goal

abbrev pub invariant-loop-rows : goal.invariant-loop-rows
invariant-loop-rows l = (given : List (List ℕ)) → AreTexts given l.fn.kept →
    AreTexts (given ++ map rows_text (take l.rows-index l.lists)) l.kept
