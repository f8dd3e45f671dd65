-- Threads share the course, which is read alone, and a station may move from the thread that makes it. Each place's
-- station can be made, as it is one of the run's.
use denote.Param.Send.{sendable}
use Rattle.std.proofs.Crossing.{crosses}
use Rattle.replica_threads.proofs.ActorsCross.{station_send}
use Rattle.replica_threads.proofs.Threads.{course_sync}
use Rattle.replica_threads.proofs.Seats.{can_make}
use Rattle.replica_threads.proofs.seating.stations.Goals as goal

pub map_vec-requires-sync-F : goal.map_vec-requires-sync-F
map_vec-requires-sync-F g c κs within = search (course_sync, sendable) depth 60 fits 20000

pub map_vec-requires-send-X : goal.map_vec-requires-send-X
map_vec-requires-send-X g c κs within = search (station_send, crosses, sendable) depth 60 fits 20000

pub map_vec-requires-after_bounds : goal.map_vec-requires-after_bounds
map_vec-requires-after_bounds g c κs within =
    can_make g.N.Naming.name c.args.course.now c.in_ok-places.places.items c.requires.course
    c.in_ok-places.ensures.places
