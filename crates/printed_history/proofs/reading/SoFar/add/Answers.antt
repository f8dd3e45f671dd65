-- A line comes next only where it tells of an actor, has the next stamp and finds the actor running. Each of
-- these tests is the definition's, and then its event decides.
use Rattle.std.proofs.Common.{sym, ◌∙◌}
use Rattle.printed_history.specs.Reading.{world_in}
use Rattle.printed_history.proofs.AtHand.{all_own}
use Rattle.printed_history.proofs.NextEntry.{no_actor, no_turn, runs_in_turn, adds_in_turn}
use Rattle.printed_history.proofs.reading.SoFar.add.Goals as goal

pub returns-in_default : goal.returns-in_default
returns-in_default c = no_actor (world_in c.args.self.now) c.args.line c.args.self.now _ c.in_default.is

pub returns-then-not-is_next : goal.returns-then-not-is_next
returns-then-not-is_next c =
    no_turn (world_in c.args.self.now) c.args.line c.in-Some.actor c.args.self.now _ c.in-Some.is
    (sym c.is_next.ensures ∙ c.if-not-is_next.true)

pub add_event-requires-clause-own : goal.add_event-requires-clause-own
add_event-requires-clause-own c = all_own c.in-Some.actor c.args.self.now c.requires.all

pub add_event-requires-clause-running : goal.add_event-requires-clause-running
add_event-requires-clause-running c =
    runs_in_turn (world_in c.args.self.now) c.args.self.now.history c.args.line.stamp c.in-Some.actor
    (sym c.is_next.ensures ∙ c.if-not-is_next.false)

pub returns : goal.returns
returns c =
    adds_in_turn (world_in c.args.self.now) c.args.line c.in-Some.actor c.as_slice.result.now c.args.self.now
    c.add_event.new.self c.add_event.result c.in-Some.is
    (sym c.is_next.ensures ∙ c.if-not-is_next.false) c.as_slice.ensures c.add_event.ensures
