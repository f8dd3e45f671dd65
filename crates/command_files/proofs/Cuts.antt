-- A text that begins with a line.
use Rattle.std.proofs.Common.{◌≡◌, ◌∙◌, ℕ, List, ◌++◌, length, take, false, true≢false, refl, sym, ap}
use Rattle.std.specs.Str.{bytes_eq}
use Rattle.std.proofs.lemmas.List.{take_at}
use Rattle.std.proofs.lemmas.Slice.Eq.{bytes_eq-Decides}

-- texts that aren't the same byte for byte aren't the same
pub differ : (a b : List ℕ) → bytes_eq a b ≡ false → a ≡ b → ⊥
differ a b other same = true≢false (sym ((bytes_eq-Decides a b).1 same) ∙ other)

-- a text that doesn't begin so where it is cut doesn't begin so
pub begins_otherwise : (text beginning front rest : List ℕ) → front ≡ take (length beginning) text
    → bytes_eq front beginning ≡ false → text ≡ beginning ++ rest → ⊥
begins_otherwise text beginning front rest cut other same =
    differ front beginning other
    (cut ∙ ap (take (length beginning)) same ∙ take_at beginning rest (length beginning) refl)
