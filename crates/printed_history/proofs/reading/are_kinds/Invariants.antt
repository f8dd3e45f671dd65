use Rattle.std.proofs.Common.{◌≡◌, take, map}
use Rattle.script_grammar.specs.Kinds.{kind_number}
use Rattle.run_lines.specs.Names.{kind_of}
use Rattle.printed_history.proofs.reading.are_kinds.Given as goal

-- the kinds so far are the bodies'
abbrev pub invariant-loop-place : goal.invariant-loop-place
invariant-loop-place l = take l.place (map kind_number l.kinds) ≡ take l.place
    (map (λ b. kind_number (kind_of b)) l.said)
