-- The shapes that pictures of a run are made of. Lengths are in pixels. (SVG 1.1, sections 5.1, 9.2, 9.3 and 10.4; the
-- shades are this project's own.)
use Rattle.std.specs.Prelude.{ℕ, ◌-◌, ◌%◌, ◌^◌, min, List, ◌++◌, codes, decimal, nat_eq, if◌then◌else◌}

-- What is too far for a number of 64 bits stands at the greatest one.
abbrev pub within : ℕ → ℕ
within x = min x (2 ^ 64 - 1)

-- a filled box by its left upper corner, its width and height
unfoldable pub box_text : (x y width height : ℕ) → List ℕ → List ℕ
box_text x y width height colour =
    codes "<rect x=\"" ++ decimal x ++ codes "\" y=\"" ++ decimal y ++ codes "\" width=\"" ++ decimal width
    ++ codes "\" height=\"" ++ decimal height ++ codes "\" fill=\"" ++ colour ++ codes "\"/>\n"

-- what a document begins with: its size, its letters and a white ground
unfoldable pub size_text : (width height : ℕ) → List ℕ
size_text width height =
    codes "<svg xmlns=\"http://www.w3.org/2000/svg\" width=\"" ++ decimal width ++ codes "\" height=\"" ++ decimal height
    ++ codes "\" viewBox=\"0 0 " ++ decimal width ++ codes " " ++ decimal height ++ codes "\" "

unfoldable pub head_text : (width height : ℕ) → List ℕ
head_text width height =
    size_text width height ++ codes "font-family=\"sans-serif\" font-size=\"12\">\n" ++ box_text 0 0 width height (codes "#ffffff")

abbrev pub closing_text : List ℕ
closing_text = codes "</svg>\n"

-- a filled dot, and an empty ring, by the centre and the radius
unfoldable pub dot_text : (x y radius : ℕ) → List ℕ → List ℕ
dot_text x y radius colour =
    codes "<circle cx=\"" ++ decimal x ++ codes "\" cy=\"" ++ decimal y ++ codes "\" r=\"" ++ decimal radius
    ++ codes "\" fill=\"" ++ colour ++ codes "\"/>\n"

unfoldable pub ring_text : (x y radius : ℕ) → List ℕ → List ℕ
ring_text x y radius colour =
    codes "<circle cx=\"" ++ decimal x ++ codes "\" cy=\"" ++ decimal y ++ codes "\" r=\"" ++ decimal radius
    ++ codes "\" fill=\"#ffffff\" stroke=\"" ++ colour ++ codes "\" stroke-width=\"2\"/>\n"

-- a line between two places, and a broken one
unfoldable pub line_text : ℕ × ℕ → ℕ × ℕ → List ℕ → List ℕ
line_text from to colour =
    codes "<line x1=\"" ++ decimal from.0 ++ codes "\" y1=\"" ++ decimal from.1 ++ codes "\" x2=\"" ++ decimal to.0
    ++ codes "\" y2=\"" ++ decimal to.1 ++ codes "\" stroke=\"" ++ colour ++ codes "\"/>\n"

unfoldable pub dashes_text : ℕ × ℕ → ℕ × ℕ → List ℕ → List ℕ
dashes_text from to colour =
    codes "<line x1=\"" ++ decimal from.0 ++ codes "\" y1=\"" ++ decimal from.1 ++ codes "\" x2=\"" ++ decimal to.0
    ++ codes "\" y2=\"" ++ decimal to.1 ++ codes "\" stroke-dasharray=\"6 4\" stroke=\"" ++ colour ++ codes "\"/>\n"

-- a number that is written at a place
unfoldable pub number_text : (x y : ℕ) → List ℕ → ℕ → List ℕ
number_text x y colour number =
    codes "<text x=\"" ++ decimal x ++ codes "\" y=\"" ++ decimal y ++ codes "\" fill=\"" ++ colour ++ codes "\">"
    ++ decimal number ++ codes "</text>\n"

-- ---- Views.

-- the ground of a view: four shades are enough to tell neighbours apart
abbrev pub shade_of : ℕ → List ℕ
shade_of view =
    if nat_eq (view % 4) 0 then codes "#e3eefa"
    else (if nat_eq (view % 4) 1 then codes "#fdf0d2"
    else (if nat_eq (view % 4) 2 then codes "#e2f4e2" else codes "#f7e3f1"))

-- a view's number
unfoldable pub view_text : (x y view : ℕ) → List ℕ
view_text x y view =
    codes "<text x=\"" ++ decimal x ++ codes "\" y=\"" ++ decimal y ++ codes "\" fill=\"#707070\">view " ++ decimal view
    ++ codes "</text>\n"
