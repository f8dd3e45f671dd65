-- The text of a point's changes. (This project's own.)
use Rattle.std.specs.Prelude.{ℕ, List, ◌++◌, length, codes, decimal}
use Rattle.std.specs.List.{flat_map}
use Rattle.std.specs.Fmt.{signed_decimal}
use Rattle.trend_archive.specs.declared.change.Changed.{Changed}
use Rattle.trend_archive.specs.declared.change.Changes.{Changes}

-- which point of which updates, and how many changes there are
unfoldable pub head_text : Changes → List ℕ
head_text a =
    codes "trend " ++ decimal a.point ++ codes " " ++ decimal a.first ++ codes " " ++ decimal a.last
    ++ codes " changes " ++ decimal (length a.items) ++ codes "\n"

-- the number of an executed update, and the value that it gave the point
unfoldable pub change_text : Changed → List ℕ
change_text x = decimal x.number ++ codes " " ++ signed_decimal x.value ++ codes "\n"

-- the whole text
abbrev pub changes_text : Changes → List ℕ
changes_text a = head_text a ++ flat_map change_text a.items
