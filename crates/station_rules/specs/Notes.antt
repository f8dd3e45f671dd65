-- What a station notes for its own machine alone: how far it is as it begins, and what each entry came to. The lines are
-- those of a printed run. (This project's own.)
use Rattle.std.specs.Prelude.{ℕ, ◌+◌, if◌then◌else◌, List, [], ◌∷◌, ◌++◌, length, drop, codes, decimal, nat_eq}
use Rattle.message_types.specs.declared.updates.Update.{Update}
use Rattle.message_types.specs.declared.vouchers.Notice.{Notice}
use Rattle.field_proxy.specs.declared.writes.Write.{Write}
use Rattle.scenario_file.specs.declared.actors.Cast.{Cast}
use Rattle.scenario_file.specs.Reading.{Contents, cast_of}
use Rattle.history_rules.specs.Events.{Entry}
use Rattle.world_history.specs.Benches.{bench_in}
use Rattle.world_history.specs.State.{BenchState, executions_shown, view_shown, writes_shown, board_shown, leaves_left}
use Rattle.run_lines.specs.Texts.{numbered_lines, execution_text, write_text, notice_text}
use Rattle.station_lives.specs.Saying.{note_line}

-- how many entries its actor has made, and how many one-time keys that has left
abbrev pub begun_note : Contents → ℕ → List Entry → List ℕ
begun_note c actor list = note_line
    (codes "begun " ++ decimal (length list) ++ codes " left " ++ decimal (leaves_left (bench_in c list actor)))

-- how far an actor has come: its view, and how many updates it executed, writes it made and notices it shows
pub record Reached : Type 0 where
  pub view : ℕ
  pub executed : ℕ
  pub writes : ℕ
  pub notices : ℕ

abbrev pub reached : BenchState → Reached
reached b = record {
  view = view_shown b;
  executed = length (executions_shown b);
  writes = length (writes_shown b);
  notices = length (board_shown b);
}

-- the view, where it is another one
abbrev pub view_note : ℕ → ℕ → List ℕ
view_note before now = if nat_eq before now then [] else note_line (codes "view " ++ decimal now)

abbrev pub executed_note : Cast → ℕ → Update → List ℕ
executed_note cast number u = codes "note executed " ++ execution_text cast number u

-- a write has a number of its own
abbrev pub write_note : ℕ → Write → List ℕ
write_note number x = codes "note write " ++ write_text x

abbrev pub notice_note : ℕ → Notice → List ℕ
notice_note number x = codes "note notice " ++ notice_text number x

-- lines for what stands behind the first `count` of a list, numbered from there on
abbrev pub lines_behind : {X : Type 0} → (ℕ → X → List ℕ) → ℕ → List X → List ℕ
lines_behind text count xs = numbered_lines text (count + 1) (drop count xs)

-- what the actor of a bench came to since it was so far
abbrev pub notes_since : Cast → Reached → BenchState → List ℕ
notes_since cast r b =
    view_note r.view (view_shown b)
    ++ lines_behind (executed_note cast) r.executed (executions_shown b)
    ++ lines_behind write_note r.writes (writes_shown b)
    ++ lines_behind notice_note r.notices (board_shown b)

-- what its actor came to at an entry, `before` being the actor's entries before it
abbrev pub entry_notes : Contents → List Entry → Entry → List ℕ
entry_notes c before e =
    notes_since (cast_of c.settings c.plant) (reached (bench_in c before e.actor)) (bench_in c (before ++ e ∷ []) e.actor)
