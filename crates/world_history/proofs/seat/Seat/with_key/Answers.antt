-- Before the first event the key has all its leaves, nothing is signed, and the role begins as the scenario has
-- it. That is the seat of an empty own list.
use Rattle.std.proofs.Common.{map, ap, refl}
use Rattle.scenario_file.specs.declared.scenario.Scenario.{Scenario}
use Rattle.scenario_file.specs.Reading.{contents, with_held}
use Rattle.world_entries.specs.Entries.{entry_of}
use Rattle.world_history.proofs.BenchAtFirst.{leaves_given, begins_seated}
use Rattle.world_history.proofs.seat.Seat.with_key.Goals as goal

pub begin-requires-clause-valid : goal.begin-requires-clause-valid
begin-requires-clause-valid c = c.requires.valid

pub begin-requires-clause-leaves : goal.begin-requires-clause-leaves
begin-requires-clause-leaves c =
    leaves_given (contents c.args.scenario.now) c.args.held c.args.actor c.left-leaves.result c.args.key c.requires.key
    c.left-leaves.ensures.left

pub returns-clause-seated : goal.returns-clause-seated
returns-clause-seated c =
    begins_seated c.args.scenario.now c.in_ok-copy.copy c.args.held c.args.actor c.in_ok-begin.field-0 c.args.key
    c.new.result.items c.new-2.result.items
    c.requires.known c.requires.there c.requires.own c.in_ok-begin.ensures c.in_ok-copy.ensures
    c.requires.key c.new.ensures.items c.new-2.ensures.items

pub returns-clause-world : goal.returns-clause-world
returns-clause-world c = ap (λ (s : Scenario). with_held (contents s) c.args.held) c.in_ok-copy.ensures

pub returns-clause-actor : goal.returns-clause-actor
returns-clause-actor c = refl

pub returns-clause-none : goal.returns-clause-none
returns-clause-none c = ap (map entry_of) c.new.ensures.items

pub returns-clause-unsigned : goal.returns-clause-unsigned
returns-clause-unsigned c = refl
