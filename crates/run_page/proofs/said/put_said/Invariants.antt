use Rattle.std.proofs.Common.{◌≡◌, ◌++◌, take, codes}
use Rattle.std.specs.Prelude.{string_bytes}
use Rattle.std.specs.List.{flat_map}
use Rattle.run_page.specs.Details.{word_line}
use Rattle.run_page.proofs.said.put_said.Given as goal

-- those so far have their lines
abbrev pub invariant-loop-body : goal.invariant-loop-body
invariant-loop-body l = string_bytes l.text ≡ string_bytes l.initial.text
    ++ flat_map (word_line l.cast l.stamp (codes " said ") l.actor) (take l.body-index l.said)
