use Rattle.master_knowledge.specs.Numbers.{HasTaken}
use Rattle.master_knowledge.proofs.numbers.take_numbers.Given as goal

abbrev pub invariant-loop-s : goal.invariant-loop-s
invariant-loop-s l = HasTaken l.fn.run l.run l.fn.order l.s
