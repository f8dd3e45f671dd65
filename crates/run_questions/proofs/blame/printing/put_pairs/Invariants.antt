use Rattle.std.proofs.Common.{◌≡◌, ◌++◌, take}
use Rattle.std.specs.Prelude.{string_bytes}
use Rattle.std.specs.List.{flat_map}
use Rattle.run_questions.specs.BlameText.{named_text}
use Rattle.run_questions.proofs.blame.printing.put_pairs.Given as goal

-- the pairs so far have their lines
abbrev pub invariant-loop-pair : goal.invariant-loop-pair
invariant-loop-pair l = string_bytes l.text ≡ string_bytes l.initial.text
    ++ flat_map named_text (take l.pair-index l.pairs)
