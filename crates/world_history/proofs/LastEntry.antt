-- The end of a list: its last entry, those before it, and the frames of the last.
use Rattle.std.proofs.Common.{◌≡◌, ℕ, ◌-◌, List, [], ◌∷◌, ◌++◌, take, length, refl, ◌∙◌, ap, arith, length-append}
use Rattle.std.specs.Prelude.{Some, slice_get}
use Rattle.std.proofs.Math.Seq.{take-append_seam}
use Rattle.history_rules.specs.Events.{Entry}
use Rattle.history_rules.specs.Setup.{Setup}
use Rattle.bench_rules.specs.Lists.{frames_after}
use Rattle.world_history.specs.Lists.{last_of, before_last, frames_at, frames_of_last}

seam : (before : List Entry) (e : Entry) → slice_get (before ++ e ∷ []) (length before) ≡ Some e
seam [] e = refl
seam (x ∷ before) e = seam before e

one_less : (before : List Entry) (e : Entry) → length (before ++ e ∷ []) - 1 ≡ length before
one_less before e = omega (arith, length-append before (e ∷ []))

pub last_grown : (before : List Entry) (e : Entry) → last_of (before ++ e ∷ []) ≡ Some e
last_grown before e = ap (slice_get (before ++ e ∷ [])) (one_less before e) ∙ seam before e

pub before_grown : (before : List Entry) (e : Entry) → before_last (before ++ e ∷ []) ≡ before
before_grown before e = ap (λ n. take n (before ++ e ∷ [])) (one_less before e) ∙ take-append_seam before (e ∷ [])

pub frames_grown : (w : Setup) (actor : ℕ) (before : List Entry) (e : Entry) →
    frames_of_last w actor (before ++ e ∷ []) ≡ frames_after w actor before e
unfolding frames_of_last
frames_grown w actor before e =
    ap (λ b. frames_at w actor b (last_of (before ++ e ∷ []))) (before_grown before e)
    ∙ ap (frames_at w actor before) (last_grown before e)

pub frames_nothing : (w : Setup) (actor : ℕ) → frames_of_last w actor [] ≡ []
unfolding frames_of_last
frames_nothing w actor = refl
