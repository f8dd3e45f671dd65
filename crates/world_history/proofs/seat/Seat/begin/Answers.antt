-- The key that the scenario's seed makes of an actor is the one by which its words are checked.
use Rattle.std.proofs.Common.{refl}
use Rattle.scenario_file.specs.Reading.{contents}
use Rattle.world_rules.proofs.Fields.{seed_has_keys}
use Rattle.world_history.proofs.BenchAtFirst.{levels_given, heights_given, key_given}
use Rattle.world_history.proofs.seat.Seat.begin.Goals as goal

pub actor_key-requires-clause-levels : goal.actor_key-requires-clause-levels
actor_key-requires-clause-levels c =
    levels_given (contents c.args.scenario.now) c.as_slice.result.now c.requires.valid c.as_slice.ensures

pub actor_key-requires-clause-heights : goal.actor_key-requires-clause-heights
actor_key-requires-clause-heights c =
    heights_given (contents c.args.scenario.now) c.as_slice.result.now c.requires.valid c.as_slice.ensures

pub with_key-requires-clause-valid : goal.with_key-requires-clause-valid
with_key-requires-clause-valid c = c.requires.valid

pub with_key-requires-clause-there : goal.with_key-requires-clause-there
with_key-requires-clause-there c = c.requires.there

pub with_key-requires-clause-known : goal.with_key-requires-clause-known
with_key-requires-clause-known c = c.requires.valid

pub with_key-requires-clause-own : goal.with_key-requires-clause-own
with_key-requires-clause-own c = seed_has_keys (contents c.args.scenario.now) c.args.actor refl

pub with_key-requires-clause-key : goal.with_key-requires-clause-key
with_key-requires-clause-key c =
    key_given c.args.scenario.now c.args.actor c.as_slice.result.now c.in_ok-key.key c.in_ok-key.ensures
    c.as_slice.ensures
