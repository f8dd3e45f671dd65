use Rattle.std.proofs.Common.{ℕ, List, ◌++◌, map, take}
use Rattle.message_types.specs.declared.body.Body.{Body}
use Rattle.history_audit.specs.Said.{HasWords}
use Rattle.history_audit.proofs.said.note_words.Given as goal

abbrev pub invariant-loop-body : goal.invariant-loop-body
invariant-loop-body l = (words : List (ℕ × Body)) → HasWords words l.fn.said →
    HasWords (words ++ map (λ b. (l.actor, b)) (take l.body-index l.bodies)) l.said
