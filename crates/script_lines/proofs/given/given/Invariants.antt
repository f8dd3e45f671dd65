use Rattle.std.proofs.Common.{◌≡◌, ◌++◌, drop}
use Rattle.script_lines.specs.Given.{own_words, given}
use Rattle.script_lines.proofs.given.given.Given as goal

abbrev pub invariant-loop-line : goal.invariant-loop-line
invariant-loop-line l =
    l.all.items ++ given l.actor (drop l.line-index l.lines) (own_words l.actor l.left) ≡ given l.actor l.lines
    (own_words l.actor l.words)
