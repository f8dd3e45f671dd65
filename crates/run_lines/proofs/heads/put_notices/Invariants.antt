use Rattle.std.proofs.Common.{◌≡◌, ◌++◌, ◌+◌, drop}
use Rattle.std.specs.Prelude.{string_bytes}
use Rattle.run_lines.specs.Texts.{notice_text, numbered_lines}
use Rattle.run_lines.proofs.heads.put_notices.Given as goal

-- with the lines of the rest all would be there
abbrev pub invariant-loop-place : goal.invariant-loop-place
invariant-loop-place l =
    string_bytes l.text ++ numbered_lines notice_text (l.place + 1) (drop l.place l.notices)
    ≡ string_bytes l.initial.text ++ numbered_lines notice_text 1 l.notices
