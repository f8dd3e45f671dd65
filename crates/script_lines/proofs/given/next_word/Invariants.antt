use Rattle.std.proofs.Common.{◌≡◌, length}
use Rattle.script_lines.specs.Given.{own_words}
use Rattle.script_lines.proofs.given.next_word.Given as goal

abbrev pub invariant-loop-first : goal.invariant-loop-first
invariant-loop-first l = own_words l.master l.rest ≡ own_words l.master l.words

abbrev pub decreases-loop-first : goal.decreases-loop-first
decreases-loop-first l = length l.rest
