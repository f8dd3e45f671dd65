-- What a plot shows of the updates that a master executed: each reading of the point that counts as a dot, joined with
-- the one before by a line, and each setting as a square, by the numbers of the executions; the limits of its alarms,
-- and where these were raised and cleared. (This project's own.)
use Rattle.std.specs.Prelude.{◌≡◌, ℕ, ◌+◌, ◌-◌, ◌/◌, ◌==◌, Bool, true, false, ◌&&◌, ℤ, ◌-ℤ◌, pos, List, [], ◌∷◌, ◌++◌, Option}
use Rattle.std.specs.Prelude.{Some, None, codes, decimal, length, nat_eq, nat_lt, if◌then◌else◌}
use Rattle.std.specs.Fmt.{signed_decimal}
use Rattle.std.specs.Int.{w64, saturate_signed}
use Rattle.std.specs.List.{flat_map}
use Rattle.std.specs.Option.{option_or}
use Rattle.quorum_sets.specs.Masters.{numbers_below}
use Rattle.message_types.specs.declared.updates.Op.{Op}
use Rattle.message_types.specs.declared.updates.Op.TheVariants as op
use Rattle.message_types.specs.declared.updates.Update.{Update}
use Rattle.point_table.specs.declared.point.Point.{Point}
use Rattle.point_table.specs.Point.{is_within}
use Rattle.alarm_rules.specs.Alarm.{is_raised, next_state}
use Rattle.alarm_rules.specs.declared.alarm.AlarmKind.{AlarmKind}
use Rattle.alarm_rules.specs.declared.alarm.AlarmKind.TheVariants as kind
use Rattle.alarm_rules.specs.declared.alarm.AlarmRule.{AlarmRule}
use Rattle.alarm_rules.specs.declared.alarm.AlarmState.{AlarmState}
use Rattle.alarm_rules.specs.declared.alarm.AlarmState.TheVariants as state
use Rattle.axis_pictures.specs.declared.frame.Frame.{Frame}
use Rattle.axis_pictures.specs.declared.legend.TheConstants.{PLOT_LEGEND}
use Rattle.svg_shapes.specs.Shapes.{within, head_text, closing_text, box_text, dashes_text, dot_text, line_text}
use Rattle.axis_pictures.specs.Frames.{along, distance, height_of, right, tick_text}
use Rattle.axis_pictures.specs.Turns.{turns}

-- A reading of the point counts that its own proxy said, of a value within the point's bounds.
abbrev pub heard_in : ℕ → Point → ℕ → Op → Option ℤ
heard_in number p client (op.Reading of v) =
    if of == number && (p.proxy == client) && is_within p v then Some v else None
heard_in number p client _ = None

abbrev pub heard : ℕ → Point → Update → Option ℤ
heard number p u = heard_in number p u.client u.op

-- where a reading stands
abbrev pub dot_at : Frame → Point → ℕ → Option ℤ → Option (ℕ × ℕ)
dot_at f p place (Some v) = Some (along f place, height_of p v)
dot_at f p place None = None

abbrev pub dot_of : Frame → ℕ → Point → ℕ → Update → Option (ℕ × ℕ)
dot_of f number p place u = dot_at f p place (heard number p u)

-- where a setting stands, written or not
abbrev pub box_of : Frame → ℕ → Point → ℕ → Op → Option (ℕ × ℕ)
box_of f number p place (op.Set of v) = if of == number then Some (along f place, height_of p v) else None
box_of f number p place _ = None

abbrev pub joint_text : Option (ℕ × ℕ) → ℕ × ℕ → List ℕ
joint_text None here = []
joint_text (Some before) here = line_text before here (codes "#2a6fb0")

abbrev pub reading_text : Option (ℕ × ℕ) → Option (ℕ × ℕ) → List ℕ
reading_text before None = []
reading_text before (Some here) = joint_text before here ++ dot_text here.0 here.1 3 (codes "#2a6fb0")

abbrev pub setting_text : Option (ℕ × ℕ) → List ℕ
setting_text None = []
setting_text (Some at) = box_text (at.0 - 4) (at.1 - 4) 8 8 (codes "#d98200")

-- the signs of one update, behind the dot of the reading before
abbrev pub sign_text : Frame → ℕ → Point → ℕ → Option (ℕ × ℕ) → Update → List ℕ
sign_text f number p place before u =
    reading_text before (dot_of f number p place u) ++ setting_text (box_of f number p place u.op)

abbrev pub dot_left : Frame → ℕ → Point → ℕ → Option (ℕ × ℕ) → Update → Option (ℕ × ℕ)
dot_left f number p place before u = option_or (dot_of f number p place u) before

-- the signs of all updates
abbrev pub signs_text : Frame → ℕ → Point → List Update → List ℕ
signs_text f number p us = turns (sign_text f number p) (dot_left f number p) 0 None us

-- ---- Alarms.

abbrev pub kind_text : AlarmKind → List ℕ
kind_text kind.High = codes "at least "
kind_text kind.Low = codes "at most "

unfoldable pub limit_at : ℕ → List ℕ
limit_at y = codes "<text x=\"76\" y=\"" ++ decimal y ++ codes "\" fill=\"#c00020\">"

unfoldable pub limit_words : ℕ → AlarmRule → List ℕ
limit_words y r =
    limit_at y ++ r.name ++ codes ": " ++ kind_text r.kind ++ signed_decimal r.limit ++ codes "</text>\n"

-- an alarm's limit as a broken line, with its words above it
unfoldable pub limit_text : Frame → Point → AlarmRule → List ℕ
limit_text f p r =
    dashes_text (70, height_of p r.limit) (right f, height_of p r.limit) (codes "#c00020")
    ++ limit_words (height_of p r.limit - 4) r

-- the alarms of this point alone
abbrev pub limit_shown : Frame → ℕ → Point → AlarmRule → List ℕ
limit_shown f number p r = if nat_eq r.point number then limit_text f p r else []

abbrev pub upright : Frame → ℕ → List ℕ → List ℕ
upright f place colour = line_text (along f place, 40) (along f place, 280) colour

-- a line where an alarm is raised, and another where it is cleared
abbrev pub turn_text : Frame → ℕ → (was is : Bool) → List ℕ
turn_text f place false true = upright f place (codes "#c00020")
turn_text f place true false = upright f place (codes "#2e8b57")
turn_text f place _ _ = []

-- an alarm's state after an update; acknowledgements neither raise nor clear it
abbrev pub alarm_after : AlarmRule → AlarmState → Option ℤ → AlarmState
alarm_after r s (Some v) = next_state r v s
alarm_after r s None = s

abbrev pub alarm_turn : Frame → ℕ → Point → AlarmRule → ℕ → AlarmState → Update → List ℕ
alarm_turn f number p r place s u =
    turn_text f place (is_raised s) (is_raised (alarm_after r s (heard number p u)))

abbrev pub alarm_left : ℕ → Point → AlarmRule → ℕ → AlarmState → Update → AlarmState
alarm_left number p r place s u = alarm_after r s (heard number p u)

abbrev pub alarm_text : Frame → ℕ → Point → List Update → AlarmRule → List ℕ
alarm_text f number p us r = turns (alarm_turn f number p r) (alarm_left number p r) 0 state.Quiet us

abbrev pub alarm_shown : Frame → ℕ → Point → List Update → AlarmRule → List ℕ
alarm_shown f number p us r = if nat_eq r.point number then alarm_text f number p us r else []

-- ---- Axes.

unfoldable pub value_head : ℕ → List ℕ
value_head y = codes "<text x=\"4\" y=\"" ++ decimal y ++ codes "\" fill=\"#404040\">"

unfoldable pub value_at : ℕ → ℤ → List ℕ
value_at y v = value_head y ++ signed_decimal v ++ codes "</text>\n"

-- a value with a line at its height
unfoldable pub level_text : Frame → ℕ → ℤ → List ℕ
level_text f y v = line_text (70, y) (right f, y) (codes "#d8d8d8") ++ value_at (within (y + 4)) v

-- so much below the point's greatest value
unfoldable pub below_high : Point → ℕ → ℤ
below_high p n = saturate_signed w64 (p.high -ℤ pos n)

unfoldable pub quarter_text : Frame → Point → (y below : ℕ) → List ℕ
quarter_text f p y below = level_text f y (below_high p below)

unfoldable pub quarters_text : Frame → Point → (range : ℕ) → List ℕ
quarters_text f p range =
    quarter_text f p 100 (range / 4) ++ quarter_text f p 160 (range / 2) ++ quarter_text f p 220 (range - range / 4)

-- the point's greatest value, its least one, and those at quarters between them
unfoldable pub levels_text : Frame → Point → List ℕ
levels_text f p =
    level_text f 40 p.high ++ level_text f 280 p.low ++ quarters_text f p (distance p.low p.high)

unfoldable pub title_head : ℕ → List ℕ
title_head number = codes "<text x=\"70\" y=\"20\" fill=\"#202020\">point " ++ decimal number ++ codes ": "

unfoldable pub title_end : ℕ → List ℕ
title_end proxy = codes " of p" ++ decimal proxy ++ codes ", in its own unit</text>\n"

-- which point it is, and whose
unfoldable pub title_text : ℕ → Point → List ℕ
title_text number p = title_head number ++ p.name ++ title_end p.proxy

unfoldable pub legend_words : List ℕ
legend_words = PLOT_LEGEND.now

-- the plot of a point over executed updates
unfoldable pub plot_text : Frame → ℕ → Point → List AlarmRule → List Update → List ℕ
plot_text f number p alarms us =
    head_text f.width 370 ++ title_text number p ++ levels_text f p
    ++ flat_map (tick_text f 1) (numbers_below 8) ++ flat_map (limit_shown f number p) alarms
    ++ flat_map (alarm_shown f number p us) alarms ++ signs_text f number p us ++ legend_words ++ closing_text
