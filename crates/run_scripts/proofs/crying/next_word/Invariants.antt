use Rattle.std.proofs.Common.{◌≡◌, drop}
use Rattle.script_lines.specs.Given.{own_words}
use Rattle.run_scripts.proofs.crying.next_word.Given as goal

-- none of the words passed over is the master's
abbrev pub invariant-loop-place : goal.invariant-loop-place
invariant-loop-place l = own_words l.master (drop l.from l.words) ≡ own_words l.master (drop l.place l.words)
