-- The hands share one lock, which may be shared as the actor's station may be sent.
use mathlib.Core.List.{List, [], ◌∷◌}
use mir.Syntax.{named}
use denote.Builtin as builtin
use denote.Param.{param}
use denote.Param.Send.{shr_sync, sendable}
use denote.Ref.{ShrRef}
use Rattle.std.specs.contracts.sync.Mutex as Mutex
use Rattle.station_turns.specs.contracts.own_station.OwnStation as OwnStation
use Rattle.replica_threads.specs.contracts.shared.Shared as Shared
use Rattle.replica_threads.proofs.ActorsCross.{captures_sync, lock_sync}
use Rattle.replica_threads.proofs.Threads.{shared_sync}
use Rattle.replica_threads.proofs.Passes.{can_hand}
use Rattle.replica_threads.proofs.handing.make_turns_of.Goals as goal

pub map_vec-requires-sync-F : goal.map_vec-requires-sync-F
map_vec-requires-sync-F g c κs within = record {
  shared = (captures_sync []
      (ShrRef (named 0) _ (param 2 g.row.R)
      ∷ ShrRef (named 0) κs.0 (Shared.the_row (record { mir = named 0; lft = _ }))
      ∷ ShrRef (named 0) _ (Mutex.the_row (OwnStation.the_row (param 0 g.row.N) (param 1 g.row.A) g.N.Naming g.A.Owner))
      ∷ ShrRef (named 0) _ (param 3 g.row.G)
      ∷ ShrRef (named 0) κs.0 builtin.u32 ∷ []) (
        shr_sync _ _ _ c.type_bounds.sync-R,
        (
          shr_sync _ _ _ (shared_sync _),
          (
            shr_sync _ _ _ (lock_sync (param 0 g.row.N) (param 1 g.row.A) g.N.Naming g.A.Owner),
            (shr_sync _ _ _ c.type_bounds.sync-G, (shr_sync _ _ builtin.u32 (search sendable depth 20), tt)),
          ),
        ),
      )).shared;
}

pub map_vec-requires-after_bounds : goal.map_vec-requires-after_bounds
map_vec-requires-after_bounds g c κs within =
    can_hand g.N.Naming.name c.args.shared.now c.args.actor g.A.Owner.actor c.args.jobs.items c.requires.can
    c.requires.whose.0 c.requires.there
