-- How the entries of an actor go in a run of threads: in turns, each of some skips and one more entry. Which entry that
-- is goes by its number among those that are no skips, and by the inputs that are left to the actor. (This project's
-- own.)
use Rattle.std.specs.Prelude.{◌≡◌, ℕ, ◌+◌, ◌%◌, ◌≤◌, Bool, true, false, not, ◌&&◌, List, [], ◌∷◌, ◌++◌, length}
use Rattle.std.specs.Prelude.{filter, map, take, Option, Some, None, unwrap_or, slice_get, nat_eq, if◌then◌else◌}
use Rattle.std.specs.List.{list_all}
use Rattle.std.specs.Option.{option_map}
use Rattle.play_words.specs.declared.input.Input.{Input}
use Rattle.play_words.specs.declared.input.Input.TheVariants as input
use Rattle.play_words.specs.declared.words.Word.{Word}
use Rattle.play_words.specs.declared.words.Word.TheVariants as word
use Rattle.play_words.specs.Accepted.{is_accepted}
use Rattle.scenario_file.specs.Reading.{Contents}
use Rattle.history_rules.specs.Events.{Event, Took, Tick, Command, Field, Poll, Cry, Skip, Restart, Entry}
use Rattle.history_rules.specs.Keeping.{is_halted}
use Rattle.script_laws.specs.Accepted.{is_there, is_intruded}
use Rattle.world_rules.specs.Scenarios.{setup_of, fits_in}
use Rattle.world_history.specs.State.{BenchState, spoken, after_word}

-- the actor can be given the input: an event of its role, or, of an intruded master, a word that a file of words can
-- hold, to actors that are there
abbrev pub fits_input : Contents → ℕ → Input → Bool
fits_input c actor (input.Command op) = fits_in c actor (Command op)
fits_input c actor (input.Field area place value) = fits_in c actor (Field area place value)
fits_input c actor input.Poll = fits_in c actor Poll
fits_input c actor (input.Say to said) = is_intruded c actor && is_accepted said && list_all (is_there c) to
fits_input c actor input.Restart = fits_in c actor Restart

abbrev pub fit_inputs : Contents → ℕ → List Input → Bool
fit_inputs c actor inputs = list_all (fits_input c actor) inputs

-- a stamp that was drawn and not used
abbrev pub is_skip : Event → Bool
is_skip Skip = true
is_skip _ = false

-- an event that comes from outside: each is one that an input becomes
abbrev pub is_outside : Event → Bool
is_outside (Command op) = true
is_outside (Field area place value) = true
is_outside Poll = true
is_outside (Cry bytes) = true
is_outside Restart = true
is_outside _ = false

-- a frame taken, or a tick
abbrev pub is_inside : Event → Bool
is_inside (Took stamp place frame) = true
is_inside Tick = true
is_inside _ = false

-- how many turns an actor with these entries has made: each has one entry that is no skip
unfoldable pub turns_made : List Entry → ℕ
turns_made list = length (filter (λ e. not (is_skip e.event)) list)

-- how many inputs it has used
unfoldable pub inputs_used : List Entry → ℕ
inputs_used list = length (filter (λ e. is_outside e.event) list)

-- the input that is next for it, if one is left
abbrev pub next_input : List Input → List Entry → Option Input
next_input inputs list = slice_get inputs (inputs_used list)

-- the word is one that its speaker signs: raw bytes are said as they stand
abbrev pub is_signed : Word → Bool
is_signed (word.Raw bytes) = false
is_signed _ = true

-- a word to say that is signed
abbrev pub signs_word : Input → Bool
signs_word (input.Say to said) = is_signed said
signs_word _ = false

-- how many words it has signed
unfoldable pub words_signed : List Input → List Entry → ℕ
words_signed inputs list = length (filter signs_word (take (inputs_used list) inputs))

-- an actor that was given these inputs, after its own entries
abbrev pub bench_after : Contents → ℕ → List Input → List Entry → BenchState
bench_after c actor inputs list =
    record { world = c; actor = actor; list = list; signed = words_signed inputs list; is_spent = false }

-- the event that an input becomes: none of a word that the actor can't say
abbrev pub event_given : BenchState → Input → Option Event
event_given b (input.Command op) = Some (Command op)
event_given b (input.Field area place value) = Some (Field area place value)
event_given b input.Poll = Some Poll
event_given b (input.Say to said) = option_map Cry (spoken b said)
event_given b input.Restart = Some Restart

-- the actor once it has been given the input: a word that it says may use a leaf
abbrev pub after_input : BenchState → Input → BenchState
after_input b (input.Say to said) = after_word b said
after_input b _ = b

-- the event that the next entry but skips is to have, if it is to have a certain one: entry 4, 8, .. is a tick, and
-- entry 1, 5, .. the next input, where one is left, or a tick where that is a word that the actor can't say
abbrev pub due_as : BenchState → ℕ → Option Input → Option Event
due_as b number left =
    if nat_eq (number % 4) 0 then Some Tick
    else (if nat_eq (number % 4) 1 then option_map (λ x. unwrap_or (event_given b x) Tick) left else None)

unfoldable pub due_next : List Input → BenchState → Option Event
due_next inputs b = due_as b (turns_made b.list + 1) (next_input inputs b.list)

-- It is that event. Where none is due it takes a frame or ticks.
abbrev pub Follows : Option Event → Event → Type 0
Follows (Some wanted) event = event ≡ wanted
Follows None event = is_inside event ≡ true

-- only skips, at most 16
pub record AreFewSkips (skips : List Entry) : Type 0 where
  pub all : list_all (λ e. is_skip e.event) skips ≡ true
  pub few : length skips ≤ 16

-- The entries of an actor that is given these inputs, turn by turn: each is at most 16 skips and then the entry that is
-- due. A skip at which the actor's keeper failed ends the last turn.
pub data IsPaced (c : Contents) (actor : ℕ) (inputs : List Input) : List Entry → Type 0 where
  begins : IsPaced c actor inputs []
  turns : (before skips : List Entry) (e : Entry) (list : List Entry) →
      IsPaced c actor inputs before → AreFewSkips skips
      → is_skip e.event ≡ false → Follows (due_next inputs (bench_after c actor inputs (before ++ skips))) e.event
      → list ≡ (before ++ skips) ++ e ∷ [] → IsPaced c actor inputs list
  halts : (before skips list : List Entry) → IsPaced c actor inputs before → AreFewSkips skips
      → is_halted (setup_of c) actor (before ++ skips) ≡ true → list ≡ before ++ skips → IsPaced c actor inputs list
