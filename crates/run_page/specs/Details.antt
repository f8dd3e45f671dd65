-- What a page is told of entries beside the printed run: the words that were said or taken, and how far actors came. (This
-- project's own.)
use Rattle.std.specs.Prelude.{ℕ, Bool, ◌&&◌, if◌then◌else◌, List, [], ◌∷◌, ◌++◌, codes, decimal, length, nat_eq}
use Rattle.std.specs.List.{flat_map}
use Rattle.message_types.specs.declared.signed.Signed.{Signed}
use Rattle.message_types.specs.declared.body.Body.{Body}
use Rattle.scenario_file.specs.declared.actors.Cast.{Cast}
use Rattle.scenario_file.specs.Reading.{Contents, cast_of}
use Rattle.history_rules.specs.Events.{Event, Took, Cry, Entry}
use Rattle.world_rules.specs.Frames.{cried}
use Rattle.world_history.specs.State.{BenchState, executions_shown, writes_shown, board_shown, view_shown}
use Rattle.world_history.specs.Benches.{bench_in}
use Rattle.run_page.specs.declared.came.Came.{Came}
use Rattle.run_page.specs.Words.{word_text}

-- the line of a word that was said at an entry, or taken there
unfoldable pub word_line : Cast → ℕ → List ℕ → ℕ → Body → List ℕ
word_line cast stamp verb signer b = decimal stamp ++ verb ++ word_text cast signer b ++ codes "\n"

-- the word of a frame that was taken where no body stands, as the reader has one that is told by its bytes (`told_by_bytes`)
abbrev pub told_text : Cast → ℕ → ℕ → Signed Body → List ℕ
told_text cast stamp place frame =
    if nat_eq place 4294967295 then word_line cast stamp (codes " took ") frame.signer frame.body else []

-- The word of an event's frame that a printed run tells by its bytes: one that was taken, or one that bytes of an intruded
-- master spell.
unfoldable pub event_text : Cast → ℕ → Event → List ℕ
event_text cast stamp (Took at place frame) = told_text cast stamp place frame
event_text cast stamp (Cry bytes) =
    flat_map (λ frame. word_line cast stamp (codes " said ") frame.signer frame.body) (cried (Cry bytes))
event_text cast stamp _ = []

-- the words of an entry
unfoldable pub words_text : Cast → Entry → List ℕ
words_text cast e =
    event_text cast e.stamp e.event ++ flat_map (word_line cast e.stamp (codes " said ") e.actor) e.said

-- how far an actor came, by what its bench shows
abbrev pub came : BenchState → Came
came b = record {
  executed = length (executions_shown b);
  written = length (writes_shown b);
  shown = length (board_shown b);
  view = view_shown b;
}

abbrev pub is_as_far : Came → Came → Bool
is_as_far a b =
    nat_eq a.executed b.executed && nat_eq a.written b.written && nat_eq a.shown b.shown && nat_eq a.view b.view

-- the line of how far an actor came, where it was another before the entry
unfoldable pub came_text : ℕ → Came → Came → List ℕ
came_text stamp before after =
    if is_as_far before after then []
    else decimal stamp ++ codes " came " ++ decimal after.executed ++ codes " " ++ decimal after.written
    ++ codes " " ++ decimal after.shown ++ codes " " ++ decimal after.view ++ codes "\n"

-- all of an entry, by its actor's bench before it and after it
abbrev pub details_at : Cast → BenchState → BenchState → Entry → List ℕ
details_at cast old now e = words_text cast e ++ came_text e.stamp (came old) (came now)

-- the details of these entries, which come after others
abbrev pub details_from : Contents → List Entry → List Entry → List ℕ
details_from c before [] = []
details_from c before (e ∷ rest) =
    details_at (cast_of c.settings c.plant) (bench_in c before e.actor) (bench_in c (before ++ e ∷ []) e.actor) e
    ++ details_from c (before ++ e ∷ []) rest

-- the details of a history
unfoldable pub details_in : Contents → List Entry → List ℕ
details_in c history = details_from c [] history
