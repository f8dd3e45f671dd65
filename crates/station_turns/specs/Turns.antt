-- What stands behind an actor's lock in a run of threads, and what one turn of it draws and adds. (This project's own.)
use Rattle.std.specs.Prelude.{◌≡◌, ◌⊎◌, ℕ, ◌+◌, ◌*◌, ◌^◌, ◌%◌, ◌<◌, ◌≤◌, Bool, true, false, ◌&&◌, List, [], ◌∷◌, ◌++◌}
use Rattle.std.specs.Prelude.{length, map, Option, Some, None, unwrap_or, is_some, nat_eq, nat_le, nat_lt}
use Rattle.std.specs.Prelude.{if◌then◌else◌}
use Rattle.std.specs.List.{list_all}
use Rattle.message_types.specs.declared.signed.Signed.{Signed}
use Rattle.message_types.specs.declared.body.Body.{Body}
use Rattle.play_words.specs.declared.input.Input.{Input}
use Rattle.play_words.specs.declared.input.Input.TheVariants as input
use Rattle.history_rules.specs.Events.{Event, Took, Tick, Skip, Entry, is_restart}
use Rattle.history_rules.specs.Setup.{Setup}
use Rattle.history_rules.specs.Legal.{TakesWell}
use Rattle.world_rules.specs.Frames.{cried}
use Rattle.world_rules.specs.Scenarios.{actors_in}
use Rattle.history_laws.specs.Own.{IsOwnHistory}
use Rattle.stamps.specs.Seats.{Drawer}
use Rattle.world_history.specs.State.{BenchState, setup_in, entry_at, with_entry}
use Rattle.world_history.specs.Lists.{last_of}
use Rattle.world_history.specs.KeptState.{KeptState, halted_in, frames_kept}
use Rattle.station_turns.specs.declared.held.Held.{Held}
use Rattle.station_turns.specs.declared.held.Turned.{Turned}
use Rattle.station_turns.specs.declared.live.Live.{Live}
use Rattle.station_turns.specs.declared.turning.Due.{Due}
use Rattle.station_turns.specs.declared.turning.Due.TheVariants as due
use Rattle.station_turns.specs.Pace.{fit_inputs, turns_made, inputs_used, words_signed, next_input, bench_after}
use Rattle.station_turns.specs.Pace.{event_given, due_next, IsPaced}

-- The actor with its keeper, its seat, all inputs that it is given, how many turns it may make, and whether memory ran
-- out under it.
pub record Stationed : Type 0 where
  pub kept : KeptState
  pub seat : Drawer
  pub inputs : List Input
  pub turns : ℕ
  pub given_up : Bool

abbrev pub stationed : Live → Stationed
stationed s = record { kept = s.kept; seat = s.seat; inputs = s.inputs.items; turns = s.turns; given_up = false }

-- What holds of an actor's own state between two entries of it, where its seat has drawn these stamps more than its
-- list has.
-- Its seat has the number after the actor's: seat 0 stays with whoever made the stamps, and all are joined to it at the
-- end.
pub record IsSteady (s : Stationed) (more : List ℕ) : Type 0 where
  pub works : s.kept.is_spent ≡ false
  pub unspent : s.kept.bench.is_spent ≡ false
  pub signed : s.kept.bench.signed ≡ words_signed s.inputs s.kept.bench.list
  pub there : s.kept.bench.actor < actors_in s.kept.bench.world
  pub number : s.seat.number ≡ s.kept.bench.actor + 1
  pub alone : s.seat.numbers ≡ s.seat.number ∷ []
  pub stamps : s.seat.drawn ≡ map (λ e. e.stamp) s.kept.bench.list ++ more
  pub own : IsOwnHistory (setup_in s.kept.bench) s.kept.bench.actor s.kept.bench.list
  pub inputs : fit_inputs s.kept.bench.world s.kept.bench.actor s.inputs ≡ true

-- What holds of it between two turns: its list is paced, and it counts the inputs used and the turns made.
pub record IsAlive (s : Stationed) (used count : ℕ) : Type 0 where
  pub steady : IsSteady s []
  pub paced : IsPaced s.kept.bench.world s.kept.bench.actor s.inputs s.kept.bench.list
  pub used_is : used ≡ inputs_used s.kept.bench.list
  pub count_is : count ≡ turns_made s.kept.bench.list
  pub made : count ≤ s.turns
  pub most : s.turns ≤ 4000
  pub short : halted_in s.kept.bench ≡ false → length s.kept.bench.list ≤ 17 * count

-- the stamp isn't above that of the held frame
abbrev pub is_early : Option Held → ℕ → Bool
is_early None stamp = false
is_early (Some h) stamp = nat_le stamp h.stamp

-- the held frame at a stamp: it is dropped where that isn't above its own
abbrev pub still_held : Option Held → ℕ → Option Held
still_held None stamp = None
still_held (Some h) stamp = if nat_lt h.stamp stamp then Some h else None

-- the event of a held frame, or of none
abbrev pub taking : Option Held → Event
taking None = Tick
taking (Some h) = Took h.stamp h.place h.frame

-- the event of the next entry but skips: the one that is due, else the held frame is taken, else it is a tick
abbrev pub event_next : List Input → BenchState → Option Held → Event
event_next inputs b held = unwrap_or (due_next inputs b) (taking held)

-- the held frame comes back where another event is due
abbrev pub held_back : List Input → BenchState → Option Held → Option Held
held_back inputs b held = if is_some (due_next inputs b) then held else None

-- the actor after skips with these stamps
abbrev pub with_skips : BenchState → List ℕ → BenchState
with_skips b [] = b
with_skips b (stamp ∷ rest) = with_skips (with_entry b stamp Skip) rest

-- the seat after it drew these more
abbrev pub drew : Drawer → List ℕ → Drawer
drew seat more = record seat { drawn = seat.drawn ++ more }

-- the stamp at which frames were said that are posted at an event: a restart posts those of the entry before again
abbrev pub stamp_of_last : ℕ → Option Entry → ℕ
stamp_of_last stamp None = stamp
stamp_of_last stamp (Some e) = e.stamp

abbrev pub stamp_posted : List Entry → ℕ → Event → ℕ
stamp_posted list stamp event = if is_restart event then stamp_of_last stamp (last_of list) else stamp

-- the frames that are posted at an event: those that the actor says, and that which its cry spells
abbrev pub frames_posted : BenchState → ℕ → Event → List (Signed Body)
frames_posted b stamp event = frames_kept b stamp event ++ cried event

-- to whom a word goes
abbrev pub named : Option Input → List ℕ
named (Some (input.Say to said)) = to
named _ = []

-- the event is a cry that spells a frame
abbrev pub cries_frame : Event → Bool
cries_frame event = nat_lt 0 (length (cried event))

-- to whom the frames of an event go, where it is a word's cry that spells one; each other frame goes where its body
-- does
abbrev pub named_at : Event → Option Input → List ℕ
named_at event given = if cries_frame event then named given else []

-- At most 16 skips, with stamps that aren't above that of the held frame.
pub record AreSkips (held : Option Held) (skips : List ℕ) : Type 0 where
  pub early : list_all (is_early held) skips ≡ true
  pub few : length skips ≤ 16

-- The skips of a turn were added, the seat drew these stamps more than that, and nothing else is changed.
pub record HasSkipped (old : Stationed) (held : Option Held) (skips more : List ℕ) (new : Stationed) : Type 0 where
  pub are : AreSkips held skips
  pub bench : new.kept.bench ≡ with_skips old.kept.bench skips
  pub seat : new.seat ≡ drew old.seat (skips ++ more)
  pub inputs : new.inputs ≡ old.inputs
  pub turns : new.turns ≡ old.turns
  pub steady : IsSteady new more

-- a stamp is drawn for the next entry: it is above those of the list, and the list is short
pub record CanAdd (s : Stationed) (stamp : ℕ) : Type 0 where
  pub steady : IsSteady s (stamp ∷ [])
  pub later : list_all (λ e. nat_lt e.stamp stamp) s.kept.bench.list ≡ true
  pub running : halted_in s.kept.bench ≡ false
  pub short : length s.kept.bench.list < 2 ^ 32

-- The stamps of a turn were drawn: the last skip halted the actor, or there is a stamp for the turn's entry.
pub record DrawsLast (old : Stationed) (held : Option Held) (stamp : ℕ) (new : Stationed) : Type 0 where
  pub skips : List ℕ
  pub skipped : HasSkipped old held (skips ++ stamp ∷ []) [] new
  pub halted : halted_in new.kept.bench ≡ true

pub record DrawsOne (old : Stationed) (held : Option Held) (stamp : ℕ) (new : Stationed) : Type 0 where
  pub skips : List ℕ
  pub skipped : HasSkipped old held skips (stamp ∷ []) new
  pub late : is_early held stamp ≡ true → length skips ≡ 16
  pub can : CanAdd new stamp

abbrev pub Draws : Stationed → Option Held → ℕ → Stationed → Type 0
Draws old held stamp new = DrawsLast old held stamp new ⊎ DrawsOne old held stamp new

-- The entry of an event was added at a stamp that was drawn for it, and what is posted of it is given.
pub record Enters (s : Stationed) (stamp : ℕ) (event : Event) (t : Turned) (new : Stationed) : Type 0 where
  pub bench : new.kept.bench ≡ bench_after s.kept.bench.world s.kept.bench.actor s.inputs
      (s.kept.bench.list ++ entry_at s.kept.bench stamp event ∷ [])
  pub seat : new.seat ≡ s.seat
  pub inputs : new.inputs ≡ s.inputs
  pub turns : new.turns ≡ s.turns
  pub steady : IsSteady new []
  pub said : t.stamp ≡ stamp_posted s.kept.bench.list stamp event
  pub frames : t.frames.items ≡ frames_posted s.kept.bench stamp event
  pub cried : t.cried ≡ cries_frame event
  pub to : t.to ≡ named_at event (next_input s.inputs s.kept.bench.list)

-- The actor's keeper failed at the last skip of a turn: the turn ends with it, and the held frame comes back.
pub record IsCut (old : Stationed) (held : Option Held) (t : Turned) (new : Stationed) : Type 0 where
  pub draws : DrawsLast old held t.stamp new
  pub nothing : (t.frames.items ≡ []) × (t.to ≡ [])
  pub cried : t.cried ≡ false
  pub back : t.held ≡ held

-- The turn adds its skips and, at the next stamp, the entry that is due. Where that stamp isn't above the held frame's,
-- 16 skips came before it, and the frame is dropped.
pub record Adds (old : Stationed) (held : Option Held) (t : Turned) (new : Stationed) : Type 0 where
  pub stamp : ℕ
  pub mid : Stationed
  pub draws : DrawsOne old held stamp mid
  pub enters : Enters mid stamp (event_next mid.inputs mid.kept.bench (still_held held stamp)) t new
  pub back : t.held ≡ held_back mid.inputs mid.kept.bench (still_held held stamp)

-- One turn.
abbrev pub Turns : Stationed → Option Held → Turned → Stationed → Type 0
Turns old held t new = IsCut old held t new ⊎ Adds old held t new

-- what the next entry but skips is to be
abbrev pub kind_due : ℕ → Option Input → Due
kind_due number left =
    if nat_eq (number % 4) 0 then due.Tick
    else (if nat_eq (number % 4) 1 && is_some left then due.Input else due.Frame)

-- the event of the next input, or a tick
abbrev pub given_or_tick : BenchState → Option Input → Event
given_or_tick b None = Tick
given_or_tick b (Some x) = unwrap_or (event_given b x) Tick

abbrev pub event_from_input : Stationed → Event
event_from_input s = given_or_tick s.kept.bench (next_input s.inputs s.kept.bench.list)

-- the frame stands, and bears a lower stamp
abbrev pub TakesAt : Setup → ℕ → Option Held → Type 0
TakesAt w stamp held = TakesWell w stamp (taking held)
