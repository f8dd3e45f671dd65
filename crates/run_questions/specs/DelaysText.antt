-- What happened in a history, as far as delays go by it, and the text of its delays. (This project's own.)
use Rattle.std.specs.Prelude.{ℕ, Bool, true, false, List, [], ◌∷◌, ◌++◌, Option, Some, None, drop, length, map, nat_eq}
use Rattle.std.specs.Prelude.{if◌then◌else◌}
use Rattle.std.specs.List.{filter_map}
use Rattle.message_types.specs.declared.body.Body.{Body}
use Rattle.message_types.specs.declared.body.Body.TheVariants as body
use Rattle.message_types.specs.declared.updates.Update.{Update}
use Rattle.message_types.specs.declared.vouchers.Notice.{Notice}
use Rattle.scenario_file.specs.Reading.{Contents, cast_of}
use Rattle.history_rules.specs.Events.{Entry, is_tick}
use Rattle.world_rules.specs.Scenarios.{setup_of}
use Rattle.world_history.specs.State.{BenchState, executions_shown, view_shown, board_shown}
use Rattle.world_history.specs.Benches.{bench_in}
use Rattle.delay_times.specs.declared.happening.Happening.{Happening}
use Rattle.delay_times.specs.declared.happening.What.{What}
use Rattle.delay_times.specs.declared.happening.What.TheVariants as what
use Rattle.delay_times.specs.declared.table.Watched.{Watched}
use Rattle.delay_times.specs.Table.{delays_of}
use Rattle.delay_times.specs.Texts.{delays_text}
use Rattle.run_questions.specs.TrendAnswers.{correct_masters}

-- a tick
abbrev pub ticked : Bool → List What
ticked true = what.Tick ∷ []
ticked false = []

-- a view that a correct master came into: that after the entry, where it was in another before
abbrev pub entered : ℕ → ℕ → List What
entered old now = if nat_eq now old then [] else what.Entered now ∷ []

-- an update said, or a vote against the leader of a view
abbrev pub spoken_in : Body → Option What
spoken_in (body.Update b) = Some (what.Said b.client b.t)
spoken_in (body.Suspect b) = Some (what.Voted b.v)
spoken_in _ = None

-- an execution, and a notice with the command that it answers
abbrev pub execution_of : Update → What
execution_of u = what.Executed u.client u.t

abbrev pub shown_of : Notice → What
shown_of n = what.Shown n.t

-- What happened to an actor at an entry, by its bench after it and by how many executions and notices it had before, and
-- in which view it was: a tick, a view entered, what was said, and the executions and the notices that weren't there.
abbrev pub whats_since : (executed shown view : ℕ) → BenchState → Entry → List What
whats_since executed shown view now e =
    ticked (is_tick e.event) ++ entered view (view_shown now) ++ filter_map spoken_in e.said
    ++ map execution_of (drop executed (executions_shown now)) ++ map shown_of (drop shown (board_shown now))

-- the same by its benches before the entry and after it
abbrev pub whats_at : BenchState → BenchState → Entry → List What
whats_at old now e =
    whats_since (length (executions_shown old)) (length (board_shown old)) (view_shown old) now e

abbrev pub happening_at : (stamp actor : ℕ) → What → Happening
happening_at stamp actor x = record { stamp = stamp; actor = actor; what = x }

abbrev pub happened_at : BenchState → BenchState → Entry → List Happening
happened_at old now e = map (happening_at e.stamp e.actor) (whats_at old now e)

-- what happened at these entries, which come after others
abbrev pub happened_from : Contents → List Entry → List Entry → List Happening
happened_from c before [] = []
happened_from c before (e ∷ rest) =
    happened_at (bench_in c before e.actor) (bench_in c (before ++ e ∷ []) e.actor) e
    ++ happened_from c (before ++ e ∷ []) rest

-- what happened in a history
unfoldable pub happened_in : Contents → List Entry → List Happening
happened_in c history = happened_from c [] history

-- a history as far as delays go by it
unfoldable pub watched_in : Contents → List Entry → Watched
watched_in c history = record {
  cast = cast_of c.settings c.plant;
  entries = length history;
  masters = correct_masters (setup_of c);
  happenings = happened_in c history;
}

-- the text of a history's delays
unfoldable pub delays_in : Contents → List Entry → List ℕ
delays_in c history = delays_text (cast_of c.settings c.plant) (delays_of (watched_in c history))
