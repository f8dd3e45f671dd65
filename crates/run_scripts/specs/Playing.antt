-- When a play at work stands where a history in the making does. (This project's own.)
use Rattle.std.specs.Prelude.{◌≡◌, ℕ, ◌+◌, ◌*◌, ◌<◌, ◌≤◌, Bool, true, false, ◌&&◌, not, List, [], ◌∷◌, ◌++◌, Option}
use Rattle.std.specs.Prelude.{Some, None, Result, Ok, Err, drop, length, map, nat_lt, slice_index_or, if◌then◌else◌}
use Rattle.std.specs.List.{list_all, flat_map}
use Rattle.std.specs.declared.vec.Vec.{Vec}
use Rattle.std.specs.declared.alloc.Global.{Global}
use Rattle.quorum_sets.specs.Masters.{numbers_below}
use Rattle.scenario_file.specs.Reading.{Contents, contents}
use Rattle.scenario_file.specs.Valid.{IsScenario}
use Rattle.history_rules.specs.Events.{Entry}
use Rattle.history_rules.specs.Setup.{Setup, stands, own}
use Rattle.history_rules.specs.Legal.{IsLegal}
use Rattle.world_rules.specs.Scenarios.{setup_of, actors_in}
use Rattle.world_history.specs.Signed.{ring_in}
use Rattle.world_history.specs.KeptState.{KeptState, first_state}
use Rattle.world_entries.specs.declared.entry.Event.{Event as Happening}
use Rattle.world_entries.specs.Entries.{event_of}
use Rattle.script_lines.specs.declared.saying.Saying.{Saying}
use Rattle.script_lines.specs.Given.{own_words}
use Rattle.run_scripts.specs.declared.answer.PlayAnswer.{PlayAnswer}
use Rattle.run_scripts.specs.declared.answer.PlayAnswer.TheVariants as answer
use Rattle.run_scripts.specs.declared.answer.StepRefusal.{StepRefusal}
use Rattle.run_scripts.specs.declared.answer.StepRefusal.TheVariants as stop
use Rattle.run_scripts.specs.declared.mail.Held.{Held}
use Rattle.run_scripts.specs.declared.mail.Post.{Post}
use Rattle.run_scripts.specs.declared.mail.Delivery.{Delivery}
use Rattle.run_scripts.specs.declared.mail.Mail.{Mail}
use Rattle.run_scripts.specs.declared.playing.World.{World}
use Rattle.run_scripts.specs.declared.playing.Playing.{Playing}
use Rattle.script_laws.specs.Accepted.{is_there, are_sayings_of}
use Rattle.run_scripts.specs.Mail.{posted_by, sent, taking}
use Rattle.run_scripts.specs.Making.{Given, Making, Going, bench_at, words_said, most_entries}

-- the slot of an actor's frames of a kind
abbrev pub slot_at : ℕ → ℕ → ℕ
slot_at actor kind = 22 * actor + kind

-- the frames of each slot
abbrev pub slots_of : List (Vec (Option Held) Global) → List (List (Option Held))
slots_of slots = map (λ v. v.items) slots

-- Each slot of so many actors has the frames posted.
pub record AreSlots (actors : ℕ) (posts : List Post) (slots : List (List (Option Held))) : Type 0 where
  pub all : length slots ≡ 22 * actors
  pub each : (actor kind : ℕ) → actor < actors → kind < 22 →
      slice_index_or slots (slot_at actor kind) [] ≡ posted_by actor kind posts

-- What was posted, and what is on its way.
pub record IsMail (actors : ℕ) (posts : List Post) (deliveries : List Delivery) (mail : Mail) : Type 0 where
  pub slots : AreSlots actors posts (slots_of mail.slots.items)
  pub waiting : mail.waiting.items ≡ deliveries

-- the frame has a slot among so many
abbrev pub has_slot : ℕ → Post → Bool
has_slot slots p = nat_lt p.from 26 && nat_lt p.kind 22 && nat_lt (slot_at p.from p.kind) slots

-- what an entry's posts add to those before: at a restart they were posted before
abbrev pub new_posts : Bool → List Post → List Post
new_posts is_new posts = if is_new then posts else []

-- what a play goes by
abbrev pub given_in : World → Given
given_in world = record { scenario = contents world.scenario.now; sayings = world.words.now }

-- The scenario is one, the ring is that of its actors, and the words are of those that it can have.
pub record IsWorld (world : World) : Type 0 where
  pub valid : IsScenario (contents world.scenario.now)
  pub ring : world.ring ≡ ring_in (contents world.scenario.now)
  pub words : are_sayings_of (contents world.scenario.now) world.words.now ≡ true

-- the frame stands, and bears a stamp before now
abbrev pub is_held_well : Setup → ℕ → Held → Bool
is_held_well w now h = nat_lt h.stamp now && stands w h.frame

-- so does each frame that can be taken
abbrev pub is_posted_well : Setup → ℕ → Option Held → Bool
is_posted_well w now None = true
is_posted_well w now (Some h) = is_held_well w now h

-- a delivery is to an actor that is there, of a frame that it can take
abbrev pub is_due : Contents → ℕ → Delivery → Bool
is_due c now d = is_there c d.to && is_held_well (setup_of c) now d.held

-- What holds of each history in the making: it is legal and no longer than a play can be, each frame that can be taken
-- stands and bears a stamp before now, and each delivery is to an actor that is there.
pub record IsSound (c : Contents) (m : Making) : Type 0 where
  pub legal : IsLegal (setup_of c) m.history
  pub short : length m.history ≤ most_entries
  pub posts : list_all (λ p. is_posted_well (setup_of c) (length m.history) p.held) m.posts ≡ true
  pub waiting : list_all (is_due c (length m.history)) m.waiting ≡ true

-- An actor stands where the history does.
pub record IsKeptAt (g : Given) (history : List Entry) (actor : ℕ) (kept : KeptState) : Type 0 where
  pub bench : kept.bench ≡ bench_at g history actor
  pub works : kept.is_spent ≡ false

-- The master's next word is looked for from a place in the list of all words.
abbrev pub IsSaidTo : Given → List Entry → ℕ → ℕ → Type 0
IsSaidTo g history master place = own_words master (drop place g.sayings) ≡ drop (words_said (own history master))
    (own_words master g.sayings)

-- A play at work stands where a history in the making does.
pub record IsMaking (g : Given) (m : Making) (p : Playing) : Type 0 where
  pub sound : IsSound g.scenario m
  pub many : length p.kept.items ≡ actors_in g.scenario
  pub kept : (actor : ℕ) (k : KeptState) → actor < actors_in g.scenario → k ≡ slice_index_or p.kept.items actor k →
      IsKeptAt g m.history actor k
  pub entries : p.entries ≡ length m.history
  pub mail : IsMail (actors_in g.scenario) m.posts m.waiting p.mail
  pub lost : p.lost.items ≡ m.lost
  pub speakers : length p.said.items ≡ actors_in g.scenario
  pub said : (actor : ℕ) → actor < actors_in g.scenario →
      IsSaidTo g m.history actor (slice_index_or p.said.items actor 0)

-- It stands where some history does.
pub record IsPlaying (g : Given) (p : Playing) : Type 0 where
  pub making : Making
  pub is : IsMaking g making p

-- A step was done as it is defined, or wasn't for the cause that is defined, or for want of memory.
abbrev pub Goes : {A : Type 0} → Given → Result A StepRefusal → Going → Playing → Type 0
Goes g (Ok done) going p = (m : Making) × (going ≡ Ok m) × IsMaking g m p
Goes g (Err stop.Want) going p = Unit {0}
Goes g (Err why) going p = going ≡ Err why

-- actors before their first events
abbrev pub AreNew : Contents → List KeptState → Type 0
AreNew c kept = kept ≡ map (first_state c) (numbers_below (actors_in c))

-- the event that takes the frame that was named, if that can be taken
abbrev pub FoundAs : Result (Option Happening) StepRefusal → Option (Option Held) → Type 0
FoundAs (Ok None) named = named ≡ Some None
FoundAs (Ok (Some event)) named = (held : Held) × (named ≡ Some (Some held)) × (event_of event ≡ taking held)
FoundAs (Err stop.NoFrame) named = named ≡ None
FoundAs (Err stop.TooMany) named = ⊥
FoundAs (Err stop.Want) named = Unit {0}

-- what a play answers that stops at a line
abbrev pub answer_at : ℕ → StepRefusal → PlayAnswer
answer_at line stop.NoFrame = answer.NoFrame line
answer_at line stop.TooMany = answer.TooMany line
answer_at line stop.Want = answer.Want

-- a line was done as it is defined, or the play stops at it
abbrev pub GoesAt : Given → ℕ → Result (Unit {0}) PlayAnswer → Going → Playing → Type 0
GoesAt g line (Ok done) going p = (m : Making) × (going ≡ Ok m) × IsMaking g m p
GoesAt g line (Err answered) going p = (why : StepRefusal) × (answered ≡ answer_at line why)
    × Goes {A = Unit {0}} g (Err why) going p

-- the actors of a play, as they are after a history
abbrev pub ArePlayed : Given → List Entry → List KeptState → Type 0
ArePlayed g history kept =
    (map (λ k. k.bench) kept ≡ map (bench_at g history) (numbers_below (actors_in g.scenario)))
    × (list_all (λ k. not k.is_spent) kept ≡ true)

-- a play at work stands where the history has come to
abbrev pub PlaysTo : Given → Playing → Unit {0} → List Entry → Type 0
PlaysTo g p done history = (m : Making) × (m.history ≡ history) × IsMaking g m p

-- The answer of a play is the history that is defined, as its actors' lists, or the line at which it stops, and why; or
-- want of memory.
abbrev pub Plays : {A : Type 0} → (A → List Entry → Type 0) → Result A PlayAnswer →
    Result (List Entry) (ℕ × StepRefusal) → Type 0
Plays Shows (Ok kept) played = (history : List Entry) × (played ≡ Ok history) × Shows kept history
Plays Shows (Err (answer.NoFrame line)) played = played ≡ Err (line, stop.NoFrame)
Plays Shows (Err (answer.TooMany line)) played = played ≡ Err (line, stop.TooMany)
Plays Shows (Err answer.Want) played = Unit {0}
