-- A seat that was just begun has no entry and signed nothing, so the bench over it is that of the actor before
-- its first event.
use Rattle.std.proofs.Common.{false}
use Rattle.world_history.proofs.bench.Bench.make.Goals as goal

pub begin-requires-clause-valid : goal.begin-requires-clause-valid
begin-requires-clause-valid c = c.requires.valid

pub begin-requires-clause-there : goal.begin-requires-clause-there
begin-requires-clause-there c = c.requires.there

pub invariant_of-result : goal.invariant_of-result
invariant_of-result c = λ works. c.in_ok-begin.ensures.seated

pub returns : goal.returns
returns c = λ i. record {
  world = c.in_ok-begin.ensures.world i;
  actor = c.in_ok-begin.ensures.actor i;
  list = c.in_ok-begin.ensures.none i;
  signed = c.in_ok-begin.ensures.unsigned i;
  is_spent = false;
}
