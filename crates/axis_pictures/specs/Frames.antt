-- Where things stand in a field with axes: to the right by a place among so many, down by a value or a count. Lengths
-- are in pixels. (This project's own.)
use Rattle.std.specs.Prelude.{ℕ, ◌+◌, ◌-◌, ◌*◌, ◌/◌, max, min, ℤ, ◌-ℤ◌, pos, unsigned_abs, int_lt, List, [], ◌++◌}
use Rattle.std.specs.Prelude.{codes, decimal, nat_lt, if◌then◌else◌}
use Rattle.point_table.specs.declared.point.Point.{Point}
use Rattle.axis_pictures.specs.declared.frame.Frame.{Frame}
use Rattle.svg_shapes.specs.Shapes.{within, line_text, number_text}

-- where a place stands, the first 70 from the left and the last 20 from the right
unfoldable pub along : Frame → ℕ → ℕ
along f place = within (within (place * (f.width - 90)) / max (f.count - 1) 1 + 70)

abbrev pub right : Frame → ℕ
right f = f.width - 20

-- how far one value is below another, 0 where it isn't
unfoldable pub distance : ℤ → ℤ → ℕ
distance low high = if int_lt low high then unsigned_abs (high -ℤ low) else 0

-- where a value stands: the point's greatest value above, its least 240 pixels below; one beyond them at the nearer one
unfoldable pub height_of : Point → ℤ → ℕ
height_of p v = let range = max (distance p.low p.high) 1 in 40 + (min (distance v p.high) range * 240) / range

-- where a count stands: nothing below, the greatest 240 pixels above it
unfoldable pub rise : (greatest count : ℕ) → ℕ
rise greatest count = 280 - min (within (count * 240) / max greatest 1) 240

-- from one tick to the next, so that there are at most eight
unfoldable pub step_of : Frame → ℕ
step_of f = f.count / 8 + 1

-- a tick below the field with the number that its place has
unfoldable pub tick_at : Frame → (place number : ℕ) → List ℕ
tick_at f place number =
    line_text (along f place, 280) (along f place, 285) (codes "#808080")
    ++ number_text (along f place - 3) 300 (codes "#404040") number

-- the tick of this number, whose places begin with `first`
abbrev pub tick_text : Frame → (first : ℕ) → ℕ → List ℕ
tick_text f first tick =
    if nat_lt (within (tick * step_of f)) f.count
    then tick_at f (within (tick * step_of f)) (within (within (tick * step_of f) + first)) else []
