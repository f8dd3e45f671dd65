use Rattle.std.proofs.Common.{map, take}
use Rattle.world_entries.specs.Entries.{entry_of}
use Rattle.blame_check.specs.Slots.{HasTaken}
use Rattle.blame_check.specs.Laws.{words_taken}
use Rattle.run_questions.proofs.blame.taking.blame_of.Given as goal

-- the entries so far are taken
abbrev pub invariant-loop-entry : goal.invariant-loop-entry
invariant-loop-entry l = HasTaken l.fn.sizes.n (words_taken (map entry_of (take l.entry-index l.entries))) l.blame
