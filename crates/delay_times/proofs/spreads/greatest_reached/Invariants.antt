use Rattle.std.proofs.Common.{◌≡◌, filter, take}
use Rattle.protocol_rules.specs.Words.{greatest_of}
use Rattle.delay_times.proofs.Growing.{reaches}
use Rattle.delay_times.proofs.spreads.greatest_reached.Given as goal

-- the greatest of those so far that so many of all reach
abbrev pub invariant-loop-number : goal.invariant-loop-number
invariant-loop-number l =
    l.greatest ≡ greatest_of (filter (reaches l.count l.numbers) (take l.number-index l.numbers))
