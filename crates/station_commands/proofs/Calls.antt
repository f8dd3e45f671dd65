-- Why a call ended so before its life, by what its words and its scenario came to.
use Rattle.std.proofs.Common.{◌≡◌, ℕ, false, List, Option, Result, Err, refl, sym, subst}
use Rattle.scenario_file.specs.Reading.{Contents}
use Rattle.command_ends.specs.declared.refusal.Refusal.{Refusal}
use Rattle.command_ends.specs.declared.refusal.Refusal.TheVariants as ends
use Rattle.command_ends.specs.Calls.{CountsStay}
use Rattle.command_words.specs.declared.read.WordsAnswer.{WordsAnswer}
use Rattle.command_words.specs.declared.read.WordsAnswer.TheVariants as words
use Rattle.station_words.specs.Wanted.{Wanted, is_taken}
use Rattle.station_commands.specs.declared.refusal.StationRefusal.{StationRefusal}
use Rattle.station_commands.specs.declared.refusal.StationRefusal.TheVariants as refusal
use Rattle.station_commands.specs.Opening.{ActorCause}
use Rattle.station_commands.specs.Lives.{PutsNothing, Reach}
use Rattle.station_commands.specs.Courses.{Course, EndsBefore, InScenario, Shelf, shelf_of, words_refusal}
use Rattle.station_commands.proofs.Holdings.{holds_moves, holds_none_moves}
use Rattle.station_commands.specs.Courses.InScenario.{life, no_actor, no_keys, no_memory as no_memory_there}
use Rattle.station_commands.specs.Courses.Course.{no_words, no_memory}

-- a refusal before anything was touched
pub ends_before : (Stays : Type 0) (reach : Reach) (why : StationRefusal) → Stays → PutsNothing reach →
    EndsBefore Stays reach why (Err why)
ends_before Stays reach why stays none = record { is = refl; untouched = stays; silent = none }

pub actor_ends : (Stays : Type 0) (c : Contents) (asked : Wanted) (shelf : Shelf) (reach : Reach) (why : Refusal) → Stays →
    PutsNothing reach → (let found : Result ℕ Refusal = Err why in ActorCause c asked.actor found) →
    InScenario Stays c asked shelf reach (Err (refusal.Known why))
actor_ends Stays c asked shelf reach ends.Usage stays none cause =
    no_actor cause.0 cause.1 (ends_before Stays reach (refusal.Known ends.Usage) stays none)
actor_ends Stays c asked shelf reach ends.Memory stays none cause =
    no_memory_there (ends_before Stays reach (refusal.Known ends.Memory) stays none)
actor_ends Stays c asked shelf reach (ends.Fault named) stays none cause = absurd cause
actor_ends Stays c asked shelf reach (ends.TooLong named) stays none cause = absurd cause
actor_ends Stays c asked shelf reach (ends.Scenario why) stays none cause = absurd cause
actor_ends Stays c asked shelf reach (ends.Script why line) stays none cause = absurd cause
actor_ends Stays c asked shelf reach (ends.Words why line) stays none cause = absurd cause
actor_ends Stays c asked shelf reach (ends.History why number) stays none cause = absurd cause
actor_ends Stays c asked shelf reach (ends.Pieces line) stays none cause = absurd cause
actor_ends Stays c asked shelf reach (ends.Keep named why) stays none cause = absurd cause
actor_ends Stays c asked shelf reach ends.NotVerified stays none cause = absurd cause
actor_ends Stays c asked shelf reach (ends.NoAnswer why) stays none cause = absurd cause
actor_ends Stays c asked shelf reach ends.Output stays none cause = absurd cause

words_end_so : (Stays : Type 0) (said : List (List ℕ)) (shelf : Shelf) (reach : Reach) (answer : WordsAnswer) → Stays → PutsNothing reach →
    (answer ≡ words.Usage → is_taken said ≡ false) →
    Course Stays said shelf reach (Err (refusal.Known (words_refusal answer)))
words_end_so Stays said shelf reach words.Usage stays none usage =
    no_words (usage refl) (ends_before Stays reach (refusal.Known ends.Usage) stays none)
words_end_so Stays said shelf reach words.Want stays none usage =
    no_memory (ends_before Stays reach (refusal.Known ends.Memory) stays none)

pub words_end : (Stays : Type 0) (said : List (List ℕ)) (shelf : Shelf) (reach : Reach) (answer : WordsAnswer) (why : Refusal) →
    why ≡ words_refusal answer → Stays → PutsNothing reach → (answer ≡ words.Usage → is_taken said ≡ false) →
    Course Stays said shelf reach (Err (refusal.Known why))
words_end Stays said shelf reach answer why told stays none usage =
    subst (λ (w : Refusal). Course Stays said shelf reach (Err (refusal.Known w))) (sym told)
    (words_end_so Stays said shelf reach answer stays none usage)

-- files that the scenario's loading left as they were
pub shelf_moves : (Stays : Type 0) (c : Contents) (asked : Wanted) (held later : List ℕ → Option (List ℕ))
    (before middle after : List ℕ → ℕ) (reach : Reach) (result : Result (Unit {0}) StationRefusal)
    → ((other : List ℕ) → later other ≡ held other) → CountsStay before middle
    → InScenario Stays c asked (shelf_of later middle after) reach result
    → InScenario Stays c asked (shelf_of held before after) reach result
shelf_moves Stays c asked held later before middle after reach result same stay (no_actor e is ends) =
    no_actor e is ends
shelf_moves Stays c asked held later before middle after reach result same stay (no_memory_there ends) =
    no_memory_there ends
shelf_moves Stays c asked held later before middle after reach result same stay (no_keys actor why is none ends) =
    no_keys actor why is (holds_none_moves c asked.actor held later before middle after why asked.keys same stay none)
    ends
shelf_moves Stays c asked held later before middle after reach result same stay (life actor keys is holds lived) =
    life actor keys is (holds_moves c asked.actor held later asked.keys keys same holds) lived
