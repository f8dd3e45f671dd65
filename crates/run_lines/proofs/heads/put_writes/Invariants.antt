use Rattle.std.proofs.Common.{◌≡◌, ◌++◌, take}
use Rattle.std.specs.Prelude.{string_bytes}
use Rattle.std.specs.List.{flat_map}
use Rattle.run_lines.specs.Texts.{write_text}
use Rattle.run_lines.proofs.heads.put_writes.Given as goal

-- the writes so far have their lines
abbrev pub invariant-loop-write : goal.invariant-loop-write
invariant-loop-write l = string_bytes l.text ≡ string_bytes l.initial.text
    ++ flat_map write_text (take l.write-index l.writes)
