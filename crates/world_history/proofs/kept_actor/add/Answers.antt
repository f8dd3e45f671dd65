-- An actor without a keeper has none that fails, and can't restart: so the frames that it says are those that go out.
use Rattle.std.proofs.Common.{false, subst}
use Rattle.std.specs.Prelude.{Option}
use Rattle.outside.specs.Keepers.{Binder}
use Rattle.world_entries.specs.Entries.{event_of}
use Rattle.world_history.specs.KeptState.{Keeps}
use Rattle.world_history.proofs.KeptInStep.{none_frames}
use Rattle.world_history.proofs.kept_actor.add.Goals as goal

pub returns-in_default-clause-frames : goal.returns-in_default-clause-frames
returns-in_default-clause-frames c =
    none_frames c.args.bench.now c.args.stamp (event_of c.args.event) c.in_ok-frames.frames.items
    (subst (λ (k : Option Binder). Keeps c.args.bench.now k false) c.in_default.is c.requires.keeps)
    c.requires.fits c.in_ok-frames.ensures.frames
