-- One level of height 5 is made.
use Rattle.std.proofs.Common.{zero, suc, [], ◌∷◌, refl, arith, inl}
use Rattle.hash_signatures.specs.State.{HasMadeHeights}

pub five_is_made : HasMadeHeights (5 ∷ [])
five_is_made zero d inside = inl refl
five_is_made (suc k) d inside = absurd (omega arith)
