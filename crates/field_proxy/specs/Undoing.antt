-- Places as they were before they were written.
use Rattle.std.specs.Prelude.{ℕ, List, [], ◌∷◌, Option, Some, None}
use Rattle.field_device.specs.Places.{Places, changed}
use Rattle.field_proxy.specs.declared.undo.Held.{Held}

-- a place as it was; where the device has no such place, there is nothing to put back
abbrev pub put_back : Held → Places → Places
put_back h d = elim h.value [ None ↦ d | Some value ↦ changed d h.area h.place value ]

-- all places as they were, the last written first
unfoldable pub undone : List Held → Places → Places
undone [] d = d
undone (h ∷ rest) d = put_back h (undone rest d)
