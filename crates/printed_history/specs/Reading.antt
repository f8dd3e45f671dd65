-- A history as it stands while its text is read. (This project's own.)
use Rattle.std.specs.Prelude.{◌≡◌, ℕ, Bool, true, false, if◌then◌else◌, List, [], ◌∷◌, ◌++◌, Option, Some, None}
use Rattle.std.specs.Prelude.{Result, Ok, Err, filter, length, map, nat_eq, slice_get}
use Rattle.std.specs.Borrow.{Bor}
use Rattle.std.specs.List.{list_all}
use Rattle.std.specs.Option.{option_copied}
use Rattle.message_types.specs.declared.signed.Signed.{Signed}
use Rattle.message_types.specs.declared.body.Body.{Body}
use Rattle.checked_frames.specs.Standing.{Ring}
use Rattle.checked_frames.specs.Standing as checked
use Rattle.quorum_sets.specs.Masters.{numbers_below}
use Rattle.scenario_file.specs.declared.held.HeldKeys.{HeldKeys}
use Rattle.scenario_file.specs.declared.scenario.Scenario.{Scenario}
use Rattle.scenario_file.specs.Reading.{Contents, contents, with_held}
use Rattle.scenario_file.specs.Valid.{IsScenario}
use Rattle.history_rules.specs.Events.{Event, Cry, Entry}
use Rattle.history_rules.specs.Setup.{Setup, stands, own}
use Rattle.history_rules.specs.Keeping.{keeper_calls}
use Rattle.history_rules.specs.Legal.{IsLegal}
use Rattle.world_rules.specs.Frames.{cried, frames_at_stamp}
use Rattle.world_rules.specs.Scenarios.{setup_of, actors_in}
use Rattle.world_entries.specs.Entries.{event_of}
use Rattle.world_entries.specs.declared.entry.Event.{Event as EventWord}
use Rattle.world_history.specs.State.{BenchState, setup_in}
use Rattle.world_history.specs.Seats.{frames_of_each}
use Rattle.world_history.specs.Signed.{ring_in}
use Rattle.world_history.specs.Benches.{bench_in}
use Rattle.run_lines.specs.declared.refusal.HistoryRefusal.{HistoryRefusal}
use Rattle.run_lines.specs.Runs.{Reading}
use Rattle.printed_history.specs.declared.histories.Replay.{Replay}
use Rattle.printed_history.specs.declared.reading.SoFar.{SoFar}

-- how many calls of its keeper an actor made
abbrev pub calls_by : List Entry → ℕ → ℕ
calls_by history actor = length (keeper_calls (own history actor))

-- a frame, where there is one and it stands
abbrev pub standing_frame : Setup → Option (Signed Body) → Option (Signed Body)
standing_frame w None = None
standing_frame w (Some frame) = if stands w frame then Some frame else None

-- the frame at a stamp and a place of lists of frames, one list a stamp
abbrev pub frame_in : List (List (Signed Body)) → ℕ → ℕ → Option (Signed Body)
frame_in posted stamp place = elim (slice_get posted stamp) [ None ↦ None | Some frames ↦ slice_get frames place ]

-- what a list of lists has at a place, or nothing
abbrev pub list_at : {X : Type 0} → Option (List X) → List X
list_at None = []
list_at (Some xs) = xs

-- Of the frames of the entry at a place of its bench, those that stand: of a cry what its bytes spell, else all that
-- was said.
abbrev pub posted_of : Ring → BenchState → ℕ → Event → List (Signed Body)
posted_of ring b place (Cry bytes) = filter (checked.stands ring) (cried (Cry bytes))
posted_of ring b place _ = list_at (slice_get (frames_of_each (setup_in b) b.actor [] b.list) place)

-- the scenario by its seed, or by the keys that are held
abbrev pub known_by : Scenario → Option (Bor HeldKeys) → Contents
known_by s held = with_held (contents s) (option_copied held)

-- the scenario and its setup
abbrev pub contents_in : SoFar → Contents
contents_in r = known_by r.scenario.now r.held

abbrev pub world_in : SoFar → Setup
world_in r = setup_of (contents_in r)

-- Where only one actor is at hand it is that one, and else it may be any.
abbrev pub is_among : Option ℕ → ℕ → Bool
is_among None actor = true
is_among (Some one) actor = nat_eq actor one

-- the actors at hand, in the order of their benches: that one, or else all that the scenario has
abbrev pub those_of : Contents → Option ℕ → List ℕ
those_of c None = numbers_below (actors_in c)
those_of c (Some one) = one ∷ []

-- the place of an actor's bench among theirs
abbrev pub place_of : Option ℕ → ℕ → ℕ
place_of None actor = actor
place_of (Some one) actor = 0

abbrev pub is_at_hand : SoFar → ℕ → Bool
is_at_hand r actor = is_among r.only actor

-- What is at hand of the entries of a scenario that are read so far: the benches of the actors at hand, who alone act in
-- them, the calls of all keepers, and the frames that stand.
pub record IsAtHand (c : Contents) (r : SoFar) : Type 0 where
  pub scenario : IsScenario c
  pub is_legal : IsLegal (setup_of c) r.history
  pub are_theirs : list_all (λ e. is_among r.only e.actor) r.history ≡ true
  pub is_ring : r.ring ≡ ring_in c
  pub are_benches : r.benches.items ≡ map (bench_in c r.history) (those_of c r.only)
  pub are_calls : r.calls.items ≡ map (calls_by r.history) (numbers_below (actors_in c))
  pub as_many : length r.posted ≡ length r.history
  pub are_frames : (stamp place : ℕ) → frame_in r.posted stamp place ≡ standing_frame (setup_of c)
      (slice_get (frames_at_stamp (setup_of c) r.history stamp) place)

abbrev pub IsSoFar : SoFar → Type 0
IsSoFar r = IsAtHand (contents_in r) r

-- Of this scenario no entry is read yet, and these actors are at hand.
pub record IsBegun (c : Contents) (only : Option ℕ) (r : SoFar) : Type 0 where
  pub is_so_far : IsSoFar r
  pub same : contents_in r ≡ c
  pub at_hand : r.only ≡ only
  pub none : r.history ≡ []

-- an event as it is kept, as one of histories
abbrev pub event_found : Option EventWord → Option Event
event_found None = None
event_found (Some event) = Some (event_of event)

-- The same scenario's entries with one more, the same actors being at hand.
pub record HasMore (old new : SoFar) (e : Entry) : Type 0 where
  pub same : contents_in new ≡ contents_in old
  pub at_hand : new.only ≡ old.only
  pub is_so_far : IsSoFar new
  pub longer : new.history ≡ old.history ++ e ∷ []

-- An entry that may come is added; another one isn't.
abbrev pub Comes : Option Entry → Bool → SoFar → SoFar → Type 0
Comes None comes old new = comes ≡ false
Comes (Some e) comes old new = (comes ≡ true) × HasMore old new e

-- An entry that may come is added. Where there is none, all stays as it was.
abbrev pub Takes : Option Entry → Bool → SoFar → SoFar → Type 0
Takes None comes old new = (comes ≡ false) × (new ≡ old)
Takes (Some e) comes old new = (comes ≡ true) × HasMore old new e

-- the history of a replay, if there is one
abbrev pub told_history : Result Replay HistoryRefusal → Reading (List Entry)
told_history (Ok replay) = Ok replay.history
told_history (Err e) = Err e
