-- Under its lock the station tells whether it works, runs and has turns left, so that its turn may be made.
-- What it answers is well turned, and a turn of that actor.
use Rattle.std.proofs.Common.{sym, ◌∙◌, arith}
use Rattle.station_turns.specs.Pace.{turns_made}
use Rattle.replica_threads.proofs.Turning.{well_turned, turn_of}
use Rattle.replica_threads.proofs.hands.turn_under_lock.Goals as goal

pub turn-requires-clause-running : goal.turn-requires-clause-running
turn-requires-clause-running g c = λ works. sym (c.halted.ensures works) ∙ c.if-halted.false

pub turn-requires-clause-left : goal.turn-requires-clause-left
turn-requires-clause-left g c = λ works. omega (
  arith,
  c.count-count.ensures.made works,
  c.if-count-shared.false,
  c.requires.shared.turns,
)

pub returns-clause-well : goal.returns-clause-well
returns-clause-well g c =
    well_turned g.N.Naming.name.scenario c.deref_mut-station.result.now c.turn.new.self c.args.held
    c.in_ok-turn.field-0 c.in_ok-turn.ensures.turns c.requires.stands c.in_ok-turn.ensures.spelled
    c.in_ok-turn.ensures.stand c.in_ok-turn.ensures.there

pub returns-clause-whose : goal.returns-clause-whose
returns-clause-whose g c =
    turn_of g.N.Naming.name c.args.actor g.A.Owner.actor c.deref_mut-station.result.now c.turn.new.self c.args.held
    c.in_ok-turn.field-0 c.requires.whose c.in_ok-turn.ensures.turns c.in_ok-turn.ensures.whose
