-- The pictures of a history, or why there is none. (This project's own.)
use Rattle.std.specs.Prelude.{◌≡◌, ℕ, ◌-◌, Bool, ◌&&◌, ◌||◌, List, [], ◌∷◌, Option, Some, None, Result, Ok, Err, length}
use Rattle.std.specs.Prelude.{is_some, map, max, nat_le, nat_lt, slice_get, unwrap_or, if◌then◌else◌}
use Rattle.std.specs.declared.vec.Vec.{Vec}
use Rattle.std.specs.declared.alloc.Global.{Global}
use Rattle.message_types.specs.declared.updates.Update.{Update}
use Rattle.point_table.specs.declared.point.Point.{Point}
use Rattle.scenario_file.specs.Reading.{Contents, cast_of}
use Rattle.history_rules.specs.Events.{Entry}
use Rattle.world_history.specs.State.{executions_shown}
use Rattle.world_history.specs.Benches.{benches_of}
use Rattle.world_rules.specs.Scenarios.{actors_in}
use Rattle.delay_times.specs.Table.{delays_of}
use Rattle.run_questions.specs.DelaysText.{watched_in}
use Rattle.history_picture.specs.declared.fault.PictureRefusal.{PictureRefusal}
use Rattle.history_picture.specs.declared.fault.PictureRefusal.TheVariants as fault
use Rattle.lane_pictures.specs.declared.picture.Range.{Range}
use Rattle.axis_pictures.specs.Charts.{chart_text}
use Rattle.lane_pictures.specs.Drawing.{picture_text}
use Rattle.history_picture.specs.Marks.{lanes_in, marks_in}
use Rattle.axis_pictures.specs.Plots.{plot_text}
use Rattle.lane_pictures.specs.Sheets.{sheet_of}

-- The stamps that are asked for, among those of so many entries: all of them where none are named, and all from one on
-- where that alone is.
abbrev pub range_between : (count first last : ℕ) → (named : Bool) → Result Range PictureRefusal
range_between count first last named =
    if nat_lt last first then Err fault.BadRange
    else (if named && nat_le count last then Err (fault.NotReached (count - 1))
    else Ok (record { first = first; last = last }))

unfoldable pub range_of : ℕ → Option ℕ → Option ℕ → Result Range PictureRefusal
range_of count first last =
    range_between count (unwrap_or first 0) (unwrap_or last (max (unwrap_or first 0) (count - 1)))
    (is_some first || is_some last)

-- the picture of a range
unfoldable pub drawn_in : Contents → List Entry → (width : ℕ) → Range → List ℕ
drawn_in c history width range =
    picture_text (cast_of c.settings c.plant) (sheet_of range.first width (length (lanes_in c history))) range
    (lanes_in c history) (marks_in c history)

abbrev pub drawn_or_fault : Contents → List Entry → (width : ℕ) → Result Range PictureRefusal →
    Result (List ℕ) PictureRefusal
drawn_or_fault c history width (Ok range) = Ok (drawn_in c history width range)
drawn_or_fault c history width (Err why) = Err why

-- the picture of the entries from one stamp to another
unfoldable pub picture_in : Contents → List Entry → Option ℕ → Option ℕ → (width : ℕ) → Result (List ℕ) PictureRefusal
picture_in c history first last width = drawn_or_fault c history width (range_of (length history) first last)

-- ---- Plots.

-- the longest of some lists of updates, the first of those
abbrev pub furthest_from : List Update → List (List Update) → List Update
furthest_from best [] = best
furthest_from best (us ∷ rest) = furthest_from (if nat_lt (length best) (length us) then us else best) rest

-- the updates of the correct master that executed most
unfoldable pub furthest_in : Contents → List Entry → List Update
furthest_in c history = furthest_from [] (map executions_shown (benches_of c history))

abbrev pub plotted : Contents → ℕ → (width : ℕ) → List Update → Option Point → Result (List ℕ) PictureRefusal
plotted c number width us None = Err fault.NoPoint
plotted c number width us (Some p) =
    Ok (plot_text (record { width = width; count = length us }) number p c.plant.alarms us)

-- a point over the executions of the correct master that executed most
unfoldable pub plot_in : Contents → List Entry → ℕ → (width : ℕ) → Result (List ℕ) PictureRefusal
plot_in c history number width =
    plotted c number width (furthest_in c history) (slice_get c.plant.points number)

-- ---- Charts.

-- how long updates took
unfoldable pub chart_in : Contents → List Entry → (width : ℕ) → List ℕ
chart_in c history width =
    chart_text (record { width = width; count = length history }) (cast_of c.settings c.plant).masters
    (delays_of (watched_in c history))

-- A text is given as it is defined, and a refusal for its cause. Want of memory alone is free.
abbrev pub Draws : Result (List ℕ) PictureRefusal → Result (Vec ℕ Global) PictureRefusal → Type 0
Draws told (Ok text) = told ≡ Ok text.items
Draws told (Err fault.Want) = Unit {0}
Draws told (Err other) = told ≡ Err other
