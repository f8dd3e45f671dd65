-- What the hands of all threads share may be shared: it is read alone, or stands under a lock. Each crew's hands can
-- make turns, as it is one of the crews handed in, and each gives its station back, as a station may move.
use mathlib.Core.List.{List, [], ◌∷◌}
use mir.Syntax.{named}
use denote.Param.{param}
use denote.Param.Send.{shr_sync, sendable}
use denote.Ref.{ShrRef}
use Rattle.std.proofs.Crossing.{crosses}
use Rattle.replica_threads.specs.contracts.shared.Shared as Shared
use Rattle.replica_threads.proofs.job.Job.TheSendSync as job
use Rattle.replica_threads.proofs.ActorsCross.{captures_sync, station_send}
use Rattle.replica_threads.proofs.Threads.{shared_sync}
use Rattle.replica_threads.proofs.Passes.{can_turn}
use Rattle.replica_threads.proofs.handing.make_all_turns.Goals as goal

pub map_vec-requires-sync-F : goal.map_vec-requires-sync-F
map_vec-requires-sync-F g c κs within = record {
  shared = (captures_sync []
      (ShrRef (named 0) _ (param 1 g.row.R)
      ∷ ShrRef (named 0) κs.0 (Shared.the_row (record { mir = named 0; lft = _ }))
      ∷ ShrRef (named 0) _ (param 2 g.row.G) ∷ []) (
        shr_sync _ _ _ c.type_bounds.sync-R,
        (shr_sync _ _ _ (shared_sync _), (shr_sync _ _ _ c.type_bounds.sync-G, tt)),
      )).shared;
}

pub map_vec-requires-send-J : goal.map_vec-requires-send-J
map_vec-requires-send-J g c κs within = search (job.the_send, station_send, crosses, sendable) depth 60 fits 20000

pub map_vec-requires-send-X : goal.map_vec-requires-send-X
map_vec-requires-send-X g c κs within = search (station_send, crosses, sendable) depth 60 fits 20000

pub map_vec-requires-after_bounds : goal.map_vec-requires-after_bounds
map_vec-requires-after_bounds g c κs within = λ i x inside at. (
  can_turn g.N.Naming.name c.args.shared.now c.args.crews.items c.requires i x inside at,
  (
    search sendable depth 20,
    search sendable depth 20,
    search sendable depth 20,
    search sendable depth 20,
  ),
)
