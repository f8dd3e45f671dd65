-- The text of a picture: rows of lanes, one for each actor, with bands for the views of correct masters, a mark for each
-- entry of a range with what happened in words, and lines from where a frame was said to where it was taken. (Groups and
-- titles are SVG 1.1's, sections 5.2 and 5.4; the rest is this project's own.)
use Rattle.std.specs.Prelude.{ℕ, ◌+◌, ◌-◌, ◌*◌, Bool, true, false, ◌&&◌, if◌then◌else◌, List, [], ◌++◌, Option, Some, None}
use Rattle.std.specs.Prelude.{codes, decimal, length, nat_eq, nat_le, nat_lt}
use Rattle.std.specs.List.{flat_map}
use Rattle.quorum_sets.specs.Masters.{numbers_below}
use Rattle.scenario_file.specs.declared.actors.Cast.{Cast}
use Rattle.scenario_file.specs.Actors.{actor_name}
use Rattle.script_grammar.specs.declared.kinds.Kind.{Kind}
use Rattle.script_grammar.specs.declared.kinds.Kind.TheVariants as kind
use Rattle.script_grammar.specs.Kinds.{kind_name}
use Rattle.lane_pictures.specs.declared.legend.TheConstants.{LEGEND}
use Rattle.lane_pictures.specs.declared.picture.Lane.{Lane}
use Rattle.lane_pictures.specs.declared.picture.Mark.{Mark}
use Rattle.lane_pictures.specs.declared.picture.Range.{Range}
use Rattle.lane_pictures.specs.declared.picture.Role.{Role}
use Rattle.lane_pictures.specs.declared.picture.Role.TheVariants as role
use Rattle.lane_pictures.specs.declared.picture.What.{What}
use Rattle.lane_pictures.specs.declared.picture.What.TheVariants as what
use Rattle.lane_pictures.specs.declared.sheet.Sheet.{Sheet}
use Rattle.lane_pictures.specs.declared.sheet.Joined.{Joined}
use Rattle.lane_pictures.specs.declared.sheet.Joined.TheVariants as joins
use Rattle.lane_pictures.specs.declared.style.Family.{Family}
use Rattle.lane_pictures.specs.declared.style.Family.TheVariants as family
use Rattle.svg_shapes.specs.Shapes.{within, head_text, closing_text, box_text, dot_text, line_text, ring_text, number_text, shade_of, view_text}
use Rattle.lane_pictures.specs.Sheets.{across, bottom, edge, joined, level, row_of}

-- whether a stamp is among those of a range
abbrev pub has : Range → ℕ → Bool
has range stamp = nat_le range.first stamp && nat_le stamp range.last

-- what an actor did so often; nothing is told of what it didn't do
abbrev pub count_text : List ℕ → ℕ → List ℕ
count_text deed count = if nat_lt 0 count then codes ", " ++ deed ++ codes " " ++ decimal count else []

-- a frame taken: by its kind, and the stamp at which it was said
abbrev pub took_text : List ℕ → Option ℕ → List ℕ
took_text name (Some stamp) = codes "took " ++ name ++ codes " of " ++ decimal stamp
took_text name None = codes "took " ++ name ++ codes " that nobody said"

abbrev pub what_text : What → List ℕ
what_text (what.Took kind by said_at) = took_text (kind_name kind) said_at
what_text what.Tick = codes "tick"
what_text what.Command = codes "command"
what_text what.Field = codes "field"
what_text what.Poll = codes "poll"
what_text what.Cry = codes "cry"
what_text what.Skip = codes "skip"
what_text what.Restart = codes "restart"

-- what happened at an entry, in words
unfoldable pub title_text : Cast → Mark → List ℕ
title_text cast m =
    decimal m.stamp ++ codes " " ++ actor_name cast m.actor ++ codes " " ++ what_text m.what
    ++ count_text (codes "says") m.said ++ count_text (codes "executes") m.executed ++ count_text (codes "writes")
    m.written ++ count_text (codes "shows") m.shown

-- the family of a kind of word
abbrev pub family_of : Kind → Family
family_of kind.PrePrepare = family.Order
family_of kind.Prepare = family.Order
family_of kind.Commit = family.Order
family_of kind.Voucher = family.Vouchers
family_of kind.Suspect = family.Views
family_of kind.Report = family.Views
family_of kind.NewView = family.Views
family_of kind.Ping = family.Measures
family_of kind.Pong = family.Measures
family_of kind.Rtt = family.Measures
family_of kind.TatReport = family.Measures
family_of kind.TatBound = family.Measures
family_of kind.AskUpdate = family.Lacks
family_of kind.Give = family.Lacks
family_of kind.AskOrder = family.Lacks
family_of kind.GiveOrdered = family.Lacks
family_of kind.Mark = family.Marks
family_of _ = family.Requests

abbrev pub colour_of : Family → List ℕ
colour_of family.Requests = codes "#2a6fb0"
colour_of family.Order = codes "#2e8b57"
colour_of family.Vouchers = codes "#d98200"
colour_of family.Views = codes "#8a3fb0"
colour_of family.Measures = codes "#9a9a9a"
colour_of family.Lacks = codes "#8b5a2b"
colour_of family.Marks = codes "#008b8b"

-- the colour of what is wrong: a cry, a frame that nobody said
abbrev pub wrong : List ℕ
wrong = codes "#c00020"

-- the sign of what came to the actor: a frame taken is a dot in its family's colour, a greater one in red where nobody
-- said it
abbrev pub sign_text : What → ℕ → ℕ → List ℕ
sign_text (what.Took kind by (Some stamp)) x y = dot_text x y 3 (colour_of (family_of kind))
sign_text (what.Took kind by None) x y = dot_text x y 5 wrong
sign_text what.Tick x y = box_text (x - 1) (y - 5) 2 10 (codes "#404040")
sign_text what.Command x y = box_text (x - 4) (y - 4) 8 8 (codes "#000000")
sign_text what.Field x y = box_text (x - 4) (y - 2) 8 4 (codes "#2a6fb0")
sign_text what.Poll x y = ring_text x y 4 (codes "#2a6fb0")
sign_text what.Cry x y = box_text (x - 4) (y - 4) 8 8 wrong
sign_text what.Skip x y = dot_text x y 1 (codes "#404040")
sign_text what.Restart x y = ring_text x y 6 (codes "#404040")

-- a number where it isn't 0
abbrev pub deed_text : (x y : ℕ) → List ℕ → ℕ → List ℕ
deed_text x y colour count = if nat_lt 0 count then number_text x y colour count else []

-- how many updates were executed, below the lane; how many values were written and notices shown, above it
unfoldable pub deeds_text : Mark → ℕ → ℕ → List ℕ
deeds_text m x y =
    deed_text (x - 3) (within (y + 16)) (codes "#2e8b57") m.executed
    ++ deed_text (x - 3) (y - 8) (codes "#000000") m.written
    ++ deed_text (x - 3) (y - 8) (codes "#d98200") m.shown

-- the group of an entry, at its stamp on its actor's lane
unfoldable pub group_text : Cast → Sheet → Mark → List ℕ
group_text cast s m =
    codes "<g><title>" ++ title_text cast m ++ codes "</title>\n"
    ++ sign_text m.what (across s m.stamp) (level s (row_of s m.stamp) m.actor)
    ++ deeds_text m (across s m.stamp) (level s (row_of s m.stamp) m.actor) ++ codes "</g>\n"

abbrev pub shown_text : Cast → Sheet → Range → Mark → List ℕ
shown_text cast s range m = if has range m.stamp then group_text cast s m else []

-- ---- Bands.

-- a piece of the band of the view that a master was in before an entry
unfoldable pub strip_text : Sheet → Mark → (row from to : ℕ) → List ℕ
strip_text s m row from to =
    box_text from (level s row m.actor - 20) (to - from) 40 (shade_of m.was)

-- the first piece of a row
unfoldable pub first_text : Sheet → Mark → List ℕ
first_text s m = strip_text s m (row_of s m.stamp) 70 (across s m.stamp)

-- the band from the master's entry before, which may end a row above
abbrev pub joint_text : Sheet → Mark → Joined → List ℕ
joint_text s m (joins.Here from) = strip_text s m (row_of s m.stamp) (across s from) (across s m.stamp)
joint_text s m (joins.Above from) = strip_text s m (row_of s from) (across s from) (edge s) ++ first_text s m
joint_text s m joins.Apart = first_text s m

-- the number of a view where its band begins in a row
abbrev pub begun_text : Sheet → Mark → Joined → List ℕ
begun_text s m (joins.Here from) = []
begun_text s m _ = view_text 70 (level s (row_of s m.stamp) m.actor - 9) m.was

-- the number of a view that the master entered
unfoldable pub entered_text : Sheet → Mark → List ℕ
entered_text s m =
    if nat_eq m.was m.view then []
    else view_text (across s m.stamp) (level s (row_of s m.stamp) m.actor - 9) m.view

unfoldable pub band_text : Sheet → Mark → List ℕ
band_text s m = joint_text s m (joined s m.since m.stamp)

unfoldable pub number_of_view : Sheet → Mark → List ℕ
number_of_view s m = begun_text s m (joined s m.since m.stamp) ++ entered_text s m

abbrev pub is_master : Role → Bool
is_master role.Master = true
is_master _ = false

-- correct masters alone have bands
abbrev pub band_shown : Sheet → Range → Mark → List ℕ
band_shown s range m = if has range m.stamp && is_master m.role then band_text s m else []

abbrev pub view_shown : Sheet → Range → Mark → List ℕ
view_shown s range m = if has range m.stamp && is_master m.role then number_of_view s m else []

-- ---- Rows.

abbrev pub lane_colour : Role → List ℕ
lane_colour role.Intruded = wrong
lane_colour _ = codes "#404040"

abbrev pub halted_text : Bool → List ℕ
halted_text true = codes " halted"
halted_text false = []

unfoldable pub name_at : ℕ → List ℕ → List ℕ
name_at y colour = codes "<text x=\"8\" y=\"" ++ decimal y ++ codes "\" fill=\"" ++ colour ++ codes "\">"

-- an actor's name and the line on which its entries stand
unfoldable pub lane_text : Cast → Sheet → (row : ℕ) → Lane → List ℕ
lane_text cast s row lane =
    line_text (70, level s row lane.actor) (edge s, level s row lane.actor) (lane_colour lane.role)
    ++ name_at (within (level s row lane.actor + 4)) (lane_colour lane.role) ++ actor_name cast lane.actor ++ halted_text lane.is_halted
    ++ codes "</text>\n"

unfoldable pub stamp_at : (y stamp : ℕ) → List ℕ
stamp_at y stamp =
    codes "<text x=\"70\" y=\"" ++ decimal y ++ codes "\" fill=\"#707070\">from entry " ++ decimal stamp
    ++ codes "</text>\n"

-- above a row stands the stamp that it begins with
unfoldable pub stamp_text : Sheet → ℕ → List ℕ
stamp_text s row = stamp_at (within (within (row * s.height) + 20)) (within (s.first + within (row * s.columns)))

unfoldable pub row_text : Cast → Sheet → List Lane → ℕ → List ℕ
row_text cast s lanes row = stamp_text s row ++ flat_map (lane_text cast s row) lanes

-- ---- Lines.

-- to where a short line goes, of a frame that was said in a row above or before the picture: towards the lane of who said it
abbrev pub towards : ℕ → ℕ → ℕ → ℕ
towards by actor y = if nat_lt by actor then y - 12 else within (y + 12)

-- where a frame was said
abbrev pub source_of : Sheet → Mark → Joined → (by : ℕ) → ℕ × ℕ
source_of s m (joins.Here from) by = (across s from, level s (row_of s m.stamp) by)
source_of s m _ by = (across s m.stamp - 10, towards by m.actor (level s (row_of s m.stamp) m.actor))

abbrev pub arrow_of : Sheet → Mark → What → List ℕ
arrow_of s m (what.Took kind by (Some from)) =
    line_text (source_of s m (joined s (Some from) m.stamp) by)
    (across s m.stamp, level s (row_of s m.stamp) m.actor) (colour_of (family_of kind))
arrow_of s m _ = []

abbrev pub arrow_shown : Sheet → Range → Mark → List ℕ
arrow_shown s range m = if has range m.stamp then arrow_of s m m.what else []

-- ---- All.

-- what stands for what, as a fixed text below the rows
unfoldable pub legend_words : List ℕ
legend_words = LEGEND.now

unfoldable pub legend_text : ℕ → List ℕ
legend_text y = codes "<g transform=\"translate(0," ++ decimal y ++ codes ")\">\n" ++ legend_words ++ codes "</g>\n"

unfoldable pub rows_of : Sheet → Range → ℕ
rows_of s range = within (row_of s range.last + 1)

-- the picture of the marks of a range
unfoldable pub picture_text : Cast → Sheet → Range → List Lane → List Mark → List ℕ
picture_text cast s range lanes marks =
    head_text s.width (within (bottom s (rows_of s range) + 150)) ++ flat_map (band_shown s range) marks
    ++ flat_map (view_shown s range) marks ++ flat_map (row_text cast s lanes) (numbers_below (rows_of s range)) ++ flat_map (arrow_shown s range) marks
    ++ flat_map (shown_text cast s range) marks ++ legend_text (bottom s (rows_of s range)) ++ closing_text
