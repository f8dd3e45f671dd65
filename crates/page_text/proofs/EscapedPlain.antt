-- Each byte's escape is plain before a plain text: a name is seen at its `&`, and no other byte is one of the three.
use Rattle.std.proofs.Common.{◌≡◌, ◌==◌, ℕ, Bool, true, false, List, [], ◌∷◌, ◌++◌, codes, refl}
use Rattle.std.specs.Prelude.{if◌then◌else◌}
use Rattle.page_text.specs.Escaping.{escaped, is_plain}

plain_more : (less amp quote : Bool) (byte : ℕ) (rest : List ℕ) → (byte == 60) ≡ less → (byte == 38) ≡ amp →
    (byte == 34) ≡ quote → is_plain rest ≡ true
    → is_plain ((if less then codes "&lt;" else if amp then codes "&amp;" else if quote then codes "&quot;" else (byte ∷ [])) ++ rest) ≡ true
plain_more true amp quote byte rest l a q plain = plain
plain_more false true quote byte rest l a q plain = plain
plain_more false false true byte rest l a q plain = plain
plain_more false false false byte rest l a q plain = rw (l, a, q, plain) refl

pub escaped_is_plain : (bytes : List ℕ) → is_plain (escaped bytes) ≡ true
escaped_is_plain [] = refl
escaped_is_plain (byte ∷ rest) =
    plain_more (byte == 60) (byte == 38) (byte == 34) byte (escaped rest) refl refl refl (escaped_is_plain rest)
