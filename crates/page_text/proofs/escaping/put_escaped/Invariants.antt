use Rattle.std.proofs.Common.{◌≡◌, ◌++◌, take}
use Rattle.std.specs.List.{flat_map}
use Rattle.page_text.specs.Escaping.{escaped_byte}
use Rattle.page_text.proofs.escaping.put_escaped.Given as goal

-- the bytes so far are escaped
abbrev pub invariant-loop-byte : goal.invariant-loop-byte
invariant-loop-byte l = l.page.items ≡ l.initial.page.items ++ flat_map escaped_byte (take l.byte-index l.text)
