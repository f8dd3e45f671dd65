-- Where things stand in a picture whose entries stand in rows: each entry in a column of its row, at the lane of its
-- actor. Lengths are in pixels. (This project's own.)
use Rattle.std.specs.Prelude.{ℕ, ◌+◌, ◌-◌, ◌*◌, ◌/◌, ◌%◌, max, Option, Some, None, nat_eq, nat_le, if◌then◌else◌}
use Rattle.svg_shapes.specs.Shapes.{within}
use Rattle.lane_pictures.specs.declared.sheet.Sheet.{Sheet}
use Rattle.lane_pictures.specs.declared.sheet.Joined.{Joined}
use Rattle.lane_pictures.specs.declared.sheet.Joined.TheVariants as joins

-- a column is 14 wide, with 70 before the first and 20 behind the last, and at least one in each row; a lane is 46 high,
-- with 30 above the first
unfoldable pub sheet_of : (first width lanes : ℕ) → Sheet
sheet_of first width lanes = record {
  first = first;
  columns = max ((width - 90) / 14) 1;
  height = within (within (lanes * 46) + 30);
  width = width;
}

-- the row of a stamp, from 0, and how far to the right it stands there
unfoldable pub row_of : Sheet → ℕ → ℕ
row_of s stamp = (stamp - s.first) / max s.columns 1

unfoldable pub across : Sheet → ℕ → ℕ
across s stamp = within (within ((stamp - s.first) % max s.columns 1 * 14) + 70)

-- where an actor's lane stands in a row, and where the last row ends
unfoldable pub level : Sheet → (row lane : ℕ) → ℕ
level s row lane = within (within (within (row * s.height) + within (lane * 46)) + 50)

unfoldable pub bottom : Sheet → (rows : ℕ) → ℕ
bottom s rows = within (within (rows * s.height) + 20)

-- where a row ends at the right
abbrev pub edge : Sheet → ℕ
edge s = s.width - 16

-- a stamp as it stands to a later one: in its row, in a row above, or before the picture
unfoldable pub joined : Sheet → Option ℕ → ℕ → Joined
joined s None stamp = joins.Apart
joined s (Some from) stamp =
    if nat_le s.first from then (if nat_eq (row_of s from) (row_of s stamp) then joins.Here from else joins.Above from)
    else joins.Apart
