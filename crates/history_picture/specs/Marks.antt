-- What a picture shows of a history: a mark for each entry, by its actor's bench before it and after it, and a lane for
-- each actor. (This project's own.)
use Rattle.std.specs.Prelude.{ℕ, ◌+◌, ◌-◌, Bool, true, false, List, [], ◌∷◌, ◌++◌, Option, Some, None, length, map}
use Rattle.std.specs.Prelude.{nat_eq, nat_lt, slice_get, unwrap_or, if◌then◌else◌}
use Rattle.std.specs.Option.{option_map}
use Rattle.quorum_sets.specs.Masters.{has_master, numbers_below}
use Rattle.scenario_file.specs.declared.actors.Cast.{Cast}
use Rattle.scenario_file.specs.Reading.{Contents, cast_of}
use Rattle.history_rules.specs.Events.{Event, Took, Tick, Command, Field, Poll, Cry, Skip, Restart, Entry}
use Rattle.history_rules.specs.Keeping.{is_halted}
use Rattle.history_rules.specs.Setup.{own}
use Rattle.world_rules.specs.Scenarios.{actors_in, setup_of}
use Rattle.world_history.specs.State.{BenchState, board_shown, executions_shown, view_shown, writes_shown}
use Rattle.world_history.specs.Benches.{bench_in}
use Rattle.run_lines.specs.Names.{kind_of}
use Rattle.history_picture.specs.declared.happened.Came.{Came}
use Rattle.lane_pictures.specs.declared.picture.Lane.{Lane}
use Rattle.lane_pictures.specs.declared.picture.Mark.{Mark}
use Rattle.lane_pictures.specs.declared.picture.Role.{Role}
use Rattle.lane_pictures.specs.declared.picture.Role.TheVariants as role
use Rattle.lane_pictures.specs.declared.picture.What.{What}
use Rattle.lane_pictures.specs.declared.picture.What.TheVariants as what

-- A frame that a printed run tells by its bytes was said by nobody; it counts as said at a place that no body has
-- (`told_by_bytes` of `printed_history`).
abbrev pub said_at : (stamp place : ℕ) → Option ℕ
said_at stamp place = if nat_eq place 4294967295 then None else Some stamp

-- Who said it: the actor of the entry of that stamp. That need not be the frame's signer, since an intruded master may say what it
-- heard.
abbrev pub said_by : List Entry → (stamp signer : ℕ) → ℕ
said_by history stamp signer = unwrap_or (option_map (λ e. e.actor) (slice_get history stamp)) signer

-- what came to the actor, in a history
abbrev pub what_of : List Entry → Event → What
what_of history (Took stamp place frame) =
    what.Took (kind_of frame.body) (said_by history stamp frame.signer) (said_at stamp place)
what_of history Tick = what.Tick
what_of history (Command op) = what.Command
what_of history (Field area place value) = what.Field
what_of history Poll = what.Poll
what_of history (Cry bytes) = what.Cry
what_of history Skip = what.Skip
what_of history Restart = what.Restart

-- an actor is a correct master, an intruded one, or a client
abbrev pub role_by : (is_master is_intruded : Bool) → Role
role_by false intruded = role.Client
role_by true true = role.Intruded
role_by true false = role.Master

abbrev pub role_in : Contents → ℕ → Role
role_in c actor =
    role_by (nat_lt actor (cast_of c.settings c.plant).masters) (has_master c.settings.intruded actor)

-- the stamp of the last of an actor's entries
abbrev pub last_stamp : List Entry → Option ℕ
last_stamp list = option_map (λ e. e.stamp) (slice_get list (length list - 1))

-- how far an actor came, by what its bench shows
abbrev pub came : BenchState → Came
came b = record {
  executed = length (executions_shown b);
  written = length (writes_shown b);
  shown = length (board_shown b);
  view = view_shown b;
}

-- the mark of an entry, by its actor's role, the entry before, what came to the actor, and how far it came before it and after it
abbrev pub mark_by : Role → Option ℕ → What → Came → Came → Entry → Mark
mark_by role since happened before after e = record {
  stamp = e.stamp;
  actor = e.actor;
  role = role;
  since = since;
  what = happened;
  said = length e.said;
  executed = after.executed - before.executed;
  written = after.written - before.written;
  shown = after.shown - before.shown;
  was = before.view;
  view = after.view;
}

-- the same by the actor's bench before it and after it
abbrev pub mark_at : Role → What → BenchState → BenchState → Entry → Mark
mark_at role happened old now e = mark_by role (last_stamp old.list) happened (came old) (came now) e

-- the marks of these entries of a history, which come after others
abbrev pub marks_from : Contents → (history before rest : List Entry) → List Mark
marks_from c history before [] = []
marks_from c history before (e ∷ rest) =
    mark_at (role_in c e.actor) (what_of history e.event) (bench_in c before e.actor)
    (bench_in c (before ++ e ∷ []) e.actor) e
    ∷ marks_from c history (before ++ e ∷ []) rest

-- the marks of a history
unfoldable pub marks_in : Contents → List Entry → List Mark
marks_in c history = marks_from c history [] history

-- the lane of an actor, by its bench
abbrev pub lane_of : Contents → BenchState → Lane
lane_of c b = record {
  actor = b.actor;
  role = role_in c b.actor;
  is_halted = is_halted (setup_of c) b.actor b.list;
}

-- the lanes of all actors in a history
abbrev pub lanes_in : Contents → List Entry → List Lane
lanes_in c history = map (λ actor. lane_of c (bench_in c history actor)) (numbers_below (actors_in c))
