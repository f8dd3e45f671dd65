-- An actor with its keeper moves to other threads, and threads share one. So do the actors of a run and their locks.
use mathlib.Core.List.{List, [], ◌∷◌}
use mir.Syntax.{Sym}
use denote.RattleType.{RattleType}
use denote.Struct.Field.{row_field}
use denote.Struct.Tuple.{parts, type_at, TupleAt}
use denote.Param.SendFields.{FieldsHave, as_row_sync, declared_sync}
use denote.Param.Send.{IsSend, IsSync, AllSync, sendable}
use Rattle.std.proofs.Crossing.{crosses}
use Rattle.std.proofs.marker.PhantomData.TheSendSync as phantom
use Rattle.std.proofs.sync.Mutex.TheSendSync as lock
use Rattle.std.specs.contracts.sync.Mutex as Mutex
use Rattle.checked_frames.proofs.checked.Checked.TheSendSync as checked
use Rattle.field_proxy.proofs.proxy.Proxy.TheSendSync as proxy
use Rattle.hash_signatures.proofs.key_state.KeyState.TheSendSync as key
use Rattle.interlocks.proofs.tree.Tree.TheLaws.TheKnot as tree
use Rattle.intruder_words.proofs.overheard.Overheard.TheSendSync as overheard
use Rattle.master_node.proofs.Threads.{node_send, node_sync}
use Rattle.operator_screen.proofs.screen.Screen.TheSendSync as screen
use Rattle.outside.proofs.memory_keeper.MemoryKeeper.TheSendSync as keeper
use Rattle.plain_lists.proofs.items.Items.TheSendSync as items
use Rattle.play_words.proofs.input.Input.TheSendSync as input
use Rattle.stamps.proofs.seat.StampSeat.TheSendSync as stamps
use Rattle.world_entries.proofs.entry.Entry.TheSendSync as entry
use Rattle.scenario_file.specs.contracts.scenario.Scenario as Scenario
use Rattle.world_history.specs.contracts.role.Role as Role
use Rattle.world_history.specs.contracts.seat.Seat as Seat
use Rattle.world_history.specs.contracts.bench.Bench as Bench
use Rattle.world_history.specs.contracts.kept_actor.Kept as Kept
use Rattle.station_turns.specs.declared.naming.Naming as naming
use Rattle.station_turns.specs.declared.naming.Owner as owner
use Rattle.station_turns.specs.contracts.live.Live as Live
use Rattle.station_turns.specs.contracts.station.Station as Station
use Rattle.station_turns.specs.contracts.own_station.OwnStation as OwnStation

pub scenario_send : IsSend Scenario.the_row
scenario_send = search (items.the_send, tree.crosses, crosses, sendable) depth 60 fits 20000

pub scenario_sync : IsSync Scenario.the_row
scenario_sync = search (items.the_sync, tree.crosses, crosses, sendable) depth 60 fits 20000

-- A struct without a model counts so as a field of another.
scenario_field_send : IsSend (Scenario.the_field).row
scenario_field_send = search (items.the_send, tree.crosses, crosses, sendable) depth 60 fits 20000

scenario_field_sync : IsSync (Scenario.the_field).row
scenario_field_sync = search (items.the_sync, tree.crosses, crosses, sendable) depth 60 fits 20000

role_send : IsSend (Role.the_field).row
role_send = search (node_send, overheard.the_send, proxy.the_send, screen.the_send, sendable) depth 60 fits 20000

role_sync : IsSync (Role.the_field).row
role_sync = search (node_sync, overheard.the_sync, proxy.the_sync, screen.the_sync, sendable) depth 60 fits 20000

seat_send : IsSend (Seat.the_field).row
seat_send = search (
  role_send,
  scenario_field_send,
  key.the_send,
  entry.the_send,
  checked.the_send,
  items.the_send,
  crosses,
  sendable,
) depth 60 fits 20000

seat_sync : IsSync (Seat.the_field).row
seat_sync = search (
  role_sync,
  scenario_field_sync,
  key.the_sync,
  entry.the_sync,
  checked.the_sync,
  items.the_sync,
  crosses,
  sendable,
) depth 60 fits 20000

pub bench_send : IsSend Bench.the_row
bench_send = search (seat_send, sendable) depth 60 fits 20000

pub bench_sync : IsSync Bench.the_row
bench_sync = search (seat_sync, sendable) depth 60 fits 20000

pub kept_send : IsSend Kept.the_row
kept_send = search (bench_send, keeper.the_send, crosses, sendable) depth 60 fits 20000

pub kept_sync : IsSync Kept.the_row
kept_sync = search (bench_sync, keeper.the_sync, crosses, sendable) depth 60 fits 20000

live_send : IsSend (Live.the_field).row
live_send = search (kept_send, stamps.the_send, input.the_send, crosses, sendable) depth 60 fits 20000

-- A seat can't be shared, so a station can't either: threads share the lock of an actor's own.
pub station_send : (T : RattleType) (g : naming.Ghosts T.Denot) → IsSend (Station.the_row T g)
station_send T g = search (phantom.the_field_send, live_send, sendable) depth 60 fits 20000

pub own_send : (T U : RattleType) (g : naming.Ghosts T.Denot) (h : owner.Ghosts U.Denot) →
    IsSend (OwnStation.the_row T U g h)
own_send T U g h = search (phantom.the_field_send, station_send, sendable) depth 60 fits 20000

pub lock_send : (T U : RattleType) (g : naming.Ghosts T.Denot) (h : owner.Ghosts U.Denot) →
    IsSend (Mutex.the_row (OwnStation.the_row T U g h))
lock_send T U g h = lock.the_send (OwnStation.the_row T U g h) (own_send T U g h)

pub lock_sync : (T U : RattleType) (g : naming.Ghosts T.Denot) (h : owner.Ghosts U.Denot) →
    IsSync (Mutex.the_row (OwnStation.the_row T U g h))
lock_sync T U g h = lock.the_sync (OwnStation.the_row T U g h) (own_send T U g h)

parts_sync : (Ts : List RattleType) → AllSync Ts → FieldsHave IsSync (parts Ts)
parts_sync [] all = tt
parts_sync (T ∷ Ts) all = (as_row_sync (row_field T) all.0, parts_sync Ts all.1)

-- Threads share a closure where they share all that it captures. (For the joins above: `search` doesn't see through
-- what Rattle makes of a closure, so an answer there spells the captures.)
pub captures_sync : (ν : Sym) (Ts : List RattleType) → AllSync Ts → IsSync (TupleAt ν Ts)
captures_sync ν Ts all = declared_sync (type_at ν Ts) (parts_sync Ts all)
