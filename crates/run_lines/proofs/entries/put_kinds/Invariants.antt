use Rattle.std.proofs.Common.{◌≡◌, ◌++◌, take}
use Rattle.std.specs.Prelude.{string_bytes}
use Rattle.std.specs.List.{flat_map}
use Rattle.run_lines.specs.Texts.{kind_text}
use Rattle.run_lines.proofs.entries.put_kinds.Given as goal

-- the kinds so far are there
abbrev pub invariant-loop-body : goal.invariant-loop-body
invariant-loop-body l = string_bytes l.text ≡ string_bytes l.initial.text
    ++ flat_map kind_text (take l.body-index l.said)
