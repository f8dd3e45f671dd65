-- Texts as the content of a page's elements. (HTML, WHATWG, sections 13.1.2.3 and 13.1.4; which characters are told by
-- their names is this project's own.)
use Rattle.std.specs.Prelude.{◌≡◌, ◌==◌, ℕ, Bool, true, false, ◌&&◌, ◌||◌, if◌then◌else◌, List, [], ◌∷◌, codes, nat_eq}
use Rattle.std.specs.List.{flat_map, starts_with}

-- A `<` would begin an element, a `&` stand for another character, and a `"` end an attribute's value.
abbrev pub escaped_byte : ℕ → List ℕ
escaped_byte byte = if byte == 60 then codes "&lt;" else if byte == 38 then codes "&amp;" else if byte == 34 then codes "&quot;" else (byte ∷ [])

abbrev pub escaped : List ℕ → List ℕ
escaped bytes = flat_map escaped_byte bytes

-- what stands behind a `&` is one of the three names
abbrev pub is_named : List ℕ → Bool
is_named bytes =
    starts_with nat_eq bytes (codes "lt;") || starts_with nat_eq bytes (codes "amp;")
    || starts_with nat_eq bytes (codes "quot;")

-- a byte, with what stands behind it, is no `<` and no `"`, and a `&` only as the beginning of one of the names
abbrev pub is_plain_byte : ℕ → List ℕ → Bool
is_plain_byte byte rest = if byte == 60 then false else if byte == 34 then false else if byte == 38 then is_named rest else true

-- Nothing in these bytes begins or ends an element, or stands for a character other than the three.
abbrev pub is_plain : List ℕ → Bool
is_plain [] = true
is_plain (byte ∷ rest) = is_plain_byte byte rest && is_plain rest

-- Every text is plain once it is escaped.
abbrev pub EscapedIsPlain : Type 0
EscapedIsPlain = (bytes : List ℕ) → is_plain (escaped bytes) ≡ true
