-- What a chart shows of how long updates took: a bar for each update at each actor, where its client said it, as high as
-- so many entries; the views in turn behind them, and the longest delay as a line. (This project's own.)
use Rattle.std.specs.Prelude.{ℕ, ◌+◌, ◌-◌, ◌/◌, List, [], ◌∷◌, ◌++◌, Option, Some, None, codes, decimal, max, nat_lt}
use Rattle.std.specs.Prelude.{unwrap_or, if◌then◌else◌}
use Rattle.std.specs.List.{flat_map}
use Rattle.quorum_sets.specs.Masters.{numbers_below}
use Rattle.delay_times.specs.declared.outcomes.Delay.{Delay}
use Rattle.delay_times.specs.declared.outcomes.Outcome.{Outcome}
use Rattle.delay_times.specs.declared.reigns.Reign.{Reign}
use Rattle.delay_times.specs.declared.table.Delays.{Delays}
use Rattle.axis_pictures.specs.declared.frame.Frame.{Frame}
use Rattle.axis_pictures.specs.declared.legend.TheConstants.{CHART_LEGEND}
use Rattle.svg_shapes.specs.Shapes.{within, head_text, closing_text, box_text, dashes_text, dot_text, line_text, number_text, shade_of, view_text}
use Rattle.axis_pictures.specs.Frames.{along, right, rise, tick_text}

-- a view's band up to the next one, or to the end
unfoldable pub reign_text : Frame → Reign → List ℕ
reign_text f x =
    box_text (along f x.from) 40 (along f (unwrap_or x.to (f.count - 1)) - along f x.from) 240 (shade_of x.view)
    ++ view_text (along f x.from) 36 x.view

-- the longer of a delay and another number of entries
abbrev pub longer : ℕ → Option Delay → ℕ
longer best None = best
longer best (Some d) = max best d.entries

-- the longest delay, 0 where there is none
abbrev pub longest_from : ℕ → List Outcome → ℕ
longest_from best [] = best
longest_from best (x ∷ xs) = longest_from (longer best x.delay) xs

abbrev pub longest : List Outcome → ℕ
longest xs = longest_from 0 xs

-- masters and screens by their colours
abbrev pub colour_at : (masters actor : ℕ) → List ℕ
colour_at masters actor = if nat_lt actor masters then codes "#2a6fb0" else codes "#d98200"

-- a bar as high as the delay with a dot on it; a red dot above the field where it never ended
abbrev pub bar_of : Frame → (masters greatest said actor : ℕ) → Option Delay → List ℕ
bar_of f masters greatest said actor (Some d) =
    box_text (along f said - 1) (rise greatest d.entries) 2 (280 - rise greatest d.entries) (codes "#9db8d6")
    ++ dot_text (along f said) (rise greatest d.entries) 3 (colour_at masters actor)
bar_of f masters greatest said actor None = dot_text (along f said) 28 4 (codes "#c00020")

unfoldable pub bar_text : Frame → (masters greatest : ℕ) → Outcome → List ℕ
bar_text f masters greatest x = bar_of f masters greatest x.said x.actor x.delay

-- a count with a line at its height, and the longest delay with a broken one
unfoldable pub level_text : Frame → ℕ → ℕ → List ℕ
level_text f y count =
    line_text (70, y) (right f, y) (codes "#b0b0b0") ++ number_text 30 (within (y + 4)) (codes "#404040") count

unfoldable pub greatest_text : Frame → ℕ → ℕ → List ℕ
greatest_text f y count =
    dashes_text (70, y) (right f, y) (codes "#c00020") ++ number_text 30 (within (y + 4)) (codes "#c00020") count

-- no delay, half the longest one, and the longest one
unfoldable pub levels_text : Frame → ℕ → List ℕ
levels_text f greatest =
    level_text f 280 0 ++ level_text f (rise greatest (greatest / 2)) (greatest / 2)
    ++ greatest_text f (rise greatest greatest) greatest

unfoldable pub legend_words : List ℕ
legend_words = CHART_LEGEND.now

unfoldable pub chart_text : Frame → (masters : ℕ) → Delays → List ℕ
chart_text f masters d =
    head_text f.width 370 ++ flat_map (reign_text f) d.reigns ++ levels_text f (longest d.outcomes)
    ++ flat_map (tick_text f 0) (numbers_below 8) ++ flat_map (bar_text f masters (longest d.outcomes)) d.outcomes
    ++ legend_words ++ closing_text
