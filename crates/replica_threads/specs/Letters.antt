-- What is handed on of a turn, and to whom. (This project's own.)
use Rattle.std.specs.Prelude.{◌≡◌, ℕ, suc, ◌^◌, ◌<◌, true, false, List, [], ◌∷◌, ◌++◌, length, map, filter, take}
use Rattle.std.specs.Prelude.{Option, Some, None, slice_get, nat_eq, All, if◌then◌else◌, IfSome}
use Rattle.std.specs.List.{list_all, flat_map}
use Rattle.message_types.specs.declared.signed.Signed.{Signed}
use Rattle.message_types.specs.declared.body.Body.{Body}
use Rattle.message_types.specs.Spelling.{has_spelling}
use Rattle.scenario_file.specs.Reading.{Contents}
use Rattle.history_rules.specs.Setup.{stands}
use Rattle.world_rules.specs.Scenarios.{setup_of}
use Rattle.world_rules.specs.Frames.{addressees}
use Rattle.script_laws.specs.Accepted.{is_there}
use Rattle.station_turns.specs.declared.held.Held.{Held}
use Rattle.station_turns.specs.declared.held.Turned.{Turned}
use Rattle.station_turns.specs.Turns.{Stationed, Turns}
use Rattle.station_turns.specs.Naming.{RunName, IsOwn}
use Rattle.inboxes.specs.declared.pass.InboxPass.{InboxPass}
use Rattle.inboxes.specs.Passes.{known}
use Rattle.replica_threads.specs.declared.posted.Posted.{Posted}

-- a place is a number of 32 bits
unfoldable pub most_frames : ℕ
most_frames = 2 ^ 32

-- frames that were said at a stamp, with their places from this one on
abbrev pub posted_from : ℕ → ℕ → List (Signed Body) → List Posted
posted_from stamp place [] = []
posted_from stamp place (f ∷ fs) = record { stamp = stamp; place = place; frame = f } ∷ posted_from stamp (suc place) fs

-- the frames of a turn as they are posted
abbrev pub posts_of : Turned → List Posted
posts_of t = posted_from t.stamp 0 (take most_frames t.frames.items)

-- The actors that a frame of an actor's turn goes to: the cry of a word to whom the word was said, each other where its
-- body does.
abbrev pub goes_to : Contents → ℕ → Turned → Signed Body → List ℕ
goes_to c actor t f = if t.cried then t.to else addressees (setup_of c).group actor f.body

-- a posted frame, to each of those
abbrev pub letters_of : Contents → ℕ → Turned → Posted → List (ℕ × Posted)
letters_of c actor t x = map (λ a. (a, x)) (goes_to c actor t x.frame)

-- all that is handed on of a turn: each frame, in the order in which they were said, to each actor that it goes to
abbrev pub letters : Contents → ℕ → Turned → List (ℕ × Posted)
letters c actor t = flat_map (letters_of c actor t) (posts_of t)

-- those of the letters that are for this actor
abbrev pub to_actor : ℕ → List (ℕ × Posted) → List Posted
to_actor actor all = map (λ l. l.1) (filter (λ l. nat_eq l.0 actor) all)

-- what was posted by a pass, in this order
abbrev pub sent_by : Option (InboxPass Posted) → List Posted
sent_by None = []
sent_by (Some pass) = map (λ item. item.1) (known pass).posted

-- By these passes, one an actor's inbox, the letters were posted: to each actor those that are for it, in their order,
-- and nothing else.
pub record HaveSent (old : List (InboxPass Posted)) (all : List (ℕ × Posted))
    (new : List (InboxPass Posted)) : Type 0 where
  pub count : length new ≡ length old
  pub each : (actor : ℕ) → actor < length old → sent_by (slice_get new actor) ≡ sent_by (slice_get old actor)
      ++ to_actor actor all

-- A frame of a turn that can be handed on: it stands, unless a word was cried, and then the word was said to actors
-- that are there.
pub record CanGo (c : Contents) (t : Turned) (f : Signed Body) : Type 0 where
  pub spelled : has_spelling f ≡ true
  pub stand : t.cried ≡ false → stands (setup_of c) f ≡ true
  pub there : list_all (is_there c) t.to ≡ true

-- A turn of a station: its frames can be handed on, and the frame that is still held can be taken.
pub record IsWellTurned (c : Contents) (t : Turned) : Type 0 where
  pub spelled : list_all has_spelling t.frames.items ≡ true
  pub stand : t.cried ≡ false → list_all (stands (setup_of c)) t.frames.items ≡ true
  pub there : list_all (is_there c) t.to ≡ true
  pub back : IfSome t.held (λ h. stands (setup_of c) h.frame ≡ true)

-- A turn of this actor in the run of this name: of the actor's own station, which stays its own.
pub record IsTurnOf (name : RunName) (actor : ℕ) (t : Turned) : Type 0 where
  pub old : Stationed
  pub new : Stationed
  pub held : Option Held
  pub before : IsOwn name actor old
  pub turns : Turns old held t new
  pub after : IsOwn name actor new

-- By these passes, one an actor's inbox, went the letters of some turns of this actor, turn by turn, and nothing else.
pub record HaveSentTurns (name : RunName) (actor : ℕ) (old new : List (InboxPass Posted)) : Type 0 where
  pub turns : List Turned
  pub each : All (IsTurnOf name actor) turns
  pub sent : HaveSent old (flat_map (letters name.scenario actor) turns) new
