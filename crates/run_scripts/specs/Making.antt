-- The one history that a script and words define: a step for each line. (This project's own.)
use Rattle.std.specs.Prelude.{ℕ, zero, suc, Bool, true, false, ◌||◌, not, List, [], ◌∷◌, ◌++◌, Option, Some, None}
use Rattle.std.specs.Prelude.{Result, Ok, Err, length, map, filter, take, nat_eq, nat_le, slice_get, if◌then◌else◌}
use Rattle.std.specs.List.{flat_map, list_any}
use Rattle.play_words.specs.declared.words.Ref.{Ref}
use Rattle.play_words.specs.Accepted.{is_raw}
use Rattle.quorum_sets.specs.Masters.{numbers_below}
use Rattle.scenario_file.specs.Reading.{Contents}
use Rattle.history_rules.specs.Events.{Event, Tick, Command, Field, Poll, Cry, Restart, Entry, is_restart}
use Rattle.history_rules.specs.Setup.{own}
use Rattle.world_rules.specs.Frames.{cried}
use Rattle.world_rules.specs.Scenarios.{setup_of, masters_in, actors_in}
use Rattle.world_history.specs.State.{BenchState, entry_at, spoken}
use Rattle.world_history.specs.Lists.{last_of}
use Rattle.world_history.specs.KeptState.{halted_in, frames_kept}
use Rattle.script_lines.specs.declared.saying.Saying.{Saying}
use Rattle.script_lines.specs.declared.script.Line.{Line}
use Rattle.script_lines.specs.declared.step.Step.{Step}
use Rattle.script_lines.specs.declared.step.Step.TheVariants as step
use Rattle.script_lines.specs.declared.step.Ticking.{Ticking}
use Rattle.script_lines.specs.declared.step.Ticking.TheVariants as ticking
use Rattle.script_lines.specs.Given.{own_words}
use Rattle.run_scripts.specs.declared.mail.Held.{Held}
use Rattle.run_scripts.specs.declared.mail.Post.{Post}
use Rattle.run_scripts.specs.declared.mail.Delivery.{Delivery}
use Rattle.run_scripts.specs.declared.answer.StepRefusal.{StepRefusal}
use Rattle.run_scripts.specs.declared.answer.StepRefusal.TheVariants as stop
use Rattle.run_scripts.specs.Mail.{post_to, posts_from, sent, post_named, taking}

-- what a play goes by: a scenario, and what its intruded masters are made to say
pub record Given : Type 0 where
  pub scenario : Contents
  pub sayings : List Saying

-- A history in the making: its entries, all frames that were posted, each once, what is on its way in order of post,
-- and which actors are lost.
pub record Making : Type 0 where
  pub history : List Entry
  pub posts : List Post
  pub waiting : List Delivery
  pub lost : List ℕ

-- how a step ends: with a history in the making, or with why the play stops
abbrev pub Going : Type 0
Going = Result Making StepRefusal

-- a step, and if it stops nothing else, then another
abbrev pub then_goes : Going → (Making → Going) → Going
then_goes (Ok m) f = f m
then_goes (Err why) f = Err why

abbrev pub is_cry : Event → Bool
is_cry (Cry bytes) = true
is_cry _ = false

-- how many words an actor said that has these entries: each is a cry
abbrev pub words_said : List Entry → ℕ
words_said list = length (filter (λ e. is_cry e.event) list)

-- how many of them it signed
abbrev pub words_signed : List Saying → ℕ → List Entry → ℕ
words_signed sayings actor list =
    length (filter (λ s. not (is_raw s.word)) (take (words_said list) (own_words actor sayings)))

-- the actor as it is after the history
unfoldable pub bench_at : Given → List Entry → ℕ → BenchState
bench_at g history actor = record {
  world = g.scenario;
  actor = actor;
  list = own history actor;
  signed = words_signed g.sayings actor (own history actor);
  is_spent = false;
}

-- a call of the actor's keeper failed; it acts no more
abbrev pub has_halted : Given → Making → ℕ → Bool
has_halted g m actor = halted_in (bench_at g m.history actor)

-- no play has more entries than this
unfoldable pub most_entries : ℕ
most_entries = 50000

-- there is no room for an entry more
abbrev pub is_full : Making → Bool
is_full m = nat_le most_entries (length m.history)

-- nothing comes to or from the actor
abbrev pub is_lost : Making → ℕ → Bool
is_lost m actor = list_any (nat_eq actor) m.lost

-- the stamp of the last entry
abbrev pub last_stamp : ℕ → Option Entry → ℕ
last_stamp stamp None = stamp
last_stamp stamp (Some e) = e.stamp

-- the stamp at which frames were said that are posted at an event: a restart posts those of the entry before again
abbrev pub stamp_said : List Entry → ℕ → Event → ℕ
stamp_said list stamp event = if is_restart event then last_stamp stamp (last_of list) else stamp

-- the frames that are posted at an actor's event
unfoldable pub posts_at : Given → List Entry → ℕ → Event → List Post
posts_at g history actor event =
    posts_from (setup_of g.scenario) actor (stamp_said (own history actor) (length history) event) 0
    (frames_kept (bench_at g history actor) (length history) event)

-- the history with an actor's event more; what is posted at it is new, but at a restart
unfoldable pub after : Given → ℕ → Event → Making → Making
after g actor event m = record m {
  history = m.history ++ entry_at (bench_at g m.history actor) (length m.history) event ∷ [];
  posts = m.posts ++ (if is_restart event then [] else posts_at g m.history actor event);
  waiting = m.waiting ++ flat_map sent (posts_at g m.history actor event);
}

-- an event of an actor, unless it has halted
unfoldable pub does : Given → ℕ → Event → Making → Going
does g actor event m =
    if has_halted g m actor then Ok m
    else (if is_full m then Err stop.TooMany else Ok (after g actor event m))

-- these tick, one after the other
unfoldable pub all_tick : Given → List ℕ → Making → Going
all_tick g [] m = Ok m
all_tick g (actor ∷ rest) m = then_goes (does g actor Tick m) (all_tick g rest)

-- a step so many times over, up to where it stops
unfoldable pub times_over : ℕ → (Making → Going) → Making → Going
times_over zero f m = Ok m
times_over (suc n) f m = then_goes (f m) (times_over n f)

-- a delivery is taken by its addressee, or thrown away
unfoldable pub deliver : Given → Delivery → Making → Going
deliver g d m = if is_lost m d.to || is_lost m d.from then Ok m else does g d.to (taking d.held) m

-- deliveries one after the other
unfoldable pub deliver_all : Given → List Delivery → Making → Going
deliver_all g [] m = Ok m
deliver_all g (d ∷ rest) m = then_goes (deliver g d m) (deliver_all g rest)

-- a round: all that waits at its start, in order
unfoldable pub round : Given → Making → Going
round g m = deliver_all g m.waiting (record m { waiting = [] })

-- an actor takes a frame that was posted, whether it is lost or not
abbrev pub takes_held : Given → ℕ → Option (Option Held) → Making → Going
takes_held g actor None m = Err stop.NoFrame
takes_held g actor (Some None) m = Ok m
takes_held g actor (Some (Some h)) m = does g actor (taking h) m

-- The play stops where no such frame was posted. One that can't be taken changes nothing.
unfoldable pub takes : Given → ℕ → Ref → Making → Going
takes g actor r m = if has_halted g m actor then Ok m else takes_held g actor (post_named m.posts r) m

-- a master's next word, if it has one
abbrev pub next_word : Given → Making → ℕ → Option Saying
next_word g m master = slice_get (own_words master g.sayings) (words_said (own m.history master))

-- the history with a cry more; a frame that it spells is posted to these
unfoldable pub after_cry : Given → ℕ → List ℕ → List ℕ → Making → Making
after_cry g master to bytes m =
    let posts = map (post_to to (setup_of g.scenario) master (length m.history) 0) (cried (Cry bytes)) in
    record m {
      history = m.history ++ entry_at (bench_at g m.history master) (length m.history) (Cry bytes) ∷ [];
      posts = m.posts ++ posts;
      waiting = m.waiting ++ flat_map sent posts;
    }

-- the bytes that a word comes to, cried; where the master can't say it, the play stops
abbrev pub cries_bytes : Given → ℕ → List ℕ → Option (List ℕ) → Making → Going
cries_bytes g master to None m = Err stop.NoFrame
cries_bytes g master to (Some bytes) m = Ok (after_cry g master to bytes m)

-- The play stops where the master can't say the word, and before that where no entry has room.
abbrev pub cries_word : Given → ℕ → Option Saying → Making → Going
cries_word g master None m = Err stop.NoFrame
cries_word g master (Some s) m =
    if is_full m then Err stop.TooMany
    else cries_bytes g master s.to (spoken (bench_at g m.history master) s.word) m

-- a master's next word, said
unfoldable pub cries : Given → ℕ → Making → Going
cries g master m = cries_word g master (next_word g m master) m

-- who ticks, in order of number
abbrev pub ticking_in : Contents → Ticking → List ℕ
ticking_in c (ticking.Actor actor) = actor ∷ []
ticking_in c ticking.Masters = numbers_below (masters_in c)
ticking_in c ticking.All = numbers_below (actors_in c)

-- those but the actor
abbrev pub other_than : ℕ → List ℕ → List ℕ
other_than actor actors = filter (λ a. not (nat_eq a actor)) actors

-- what a line does
unfoldable pub goes : Given → Step → Making → Going
goes g (step.Tick who times) m = times_over times (all_tick g (ticking_in g.scenario who)) m
goes g (step.Flow rounds) m = times_over rounds (round g) m
goes g (step.Lose actor) m = Ok (record m { lost = other_than actor m.lost ++ actor ∷ [] })
goes g (step.Heal actor) m = Ok (record m { lost = other_than actor m.lost })
goes g step.Drop m = Ok (record m { waiting = [] })
goes g (step.Take actor r) m = takes g actor r m
goes g (step.Command screen op) m = does g screen (Command op) m
goes g (step.Field proxy area place value) m = does g proxy (Field area place value) m
goes g (step.Poll proxy) m = does g proxy Poll m
goes g (step.Cry master times) m = times_over times (cries g master) m
goes g (step.Restart actor) m = does g actor Restart m

-- a line's step and then the lines after it; where it stops, the number of the line and why
abbrev pub then_plays : ℕ → Going → (Making → Result (List Entry) (ℕ × StepRefusal)) →
    Result (List Entry) (ℕ × StepRefusal)
then_plays number (Ok m) f = f m
then_plays number (Err why) f = Err (number, why)

-- the history of the lines, or the number of the line at which the play stops, and why
unfoldable pub played_from : Given → List Line → Making → Result (List Entry) (ℕ × StepRefusal)
played_from g [] m = Ok m.history
played_from g (line ∷ rest) m = then_plays line.number (goes g line.step m) (played_from g rest)

-- no entry yet, nothing posted, nothing on its way and none lost
abbrev pub beginning : Making
beginning = record { history = []; posts = []; waiting = []; lost = [] }

-- the history of a script, from the beginning
unfoldable pub played : Given → List Line → Result (List Entry) (ℕ × StepRefusal)
played g lines = played_from g lines beginning
