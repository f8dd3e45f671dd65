-- Each value of a table is within its point's bounds: at the start, and still after one value is replaced by
-- another within them. Shown by going along points and values together.
use Rattle.std.proofs.Common.{◌≡◌, ℕ, zero, suc, true, List, [], ◌∷◌, length, Some, refl, ◌∙◌, ap, subst, ℤ, pos}
use Rattle.std.proofs.Common.{◌≤ℤ◌, slice_get, slice_set}
use Rattle.point_table.specs.declared.point.Point.{Point}
use Rattle.point_table.specs.Point.{is_within, HasScale}
use Rattle.point_table.specs.Table.{AreWithin, AreUsable, start_values}

-- one value for each point
pub AreWithin-length : (ps : List Point) (vs : List ℤ) → AreWithin ps vs → length vs ≡ length ps
AreWithin-length [] [] h = refl
AreWithin-length [] (v ∷ vs) h = absurd h
AreWithin-length (p ∷ ps) [] h = absurd h
AreWithin-length (p ∷ ps) (v ∷ vs) h = ap suc (AreWithin-length ps vs h.1)

-- a new value within its point's bounds keeps all within theirs
pub AreWithin-set : (ps : List Point) (vs : List ℤ) (i : ℕ) (p : Point) (v : ℤ) → slice_get ps i ≡ Some p →
    is_within p v ≡ true → AreWithin ps vs → AreWithin ps (slice_set vs i v)
AreWithin-set [] [] i p v at within h = h
AreWithin-set [] (w ∷ ws) i p v at within h = absurd h
AreWithin-set (q ∷ ps) [] i p v at within h = absurd h
AreWithin-set (q ∷ ps) (w ∷ ws) zero p v at within h =
    (let same : q ≡ p = cc in (ap (λ x. is_within x v) same ∙ within), h.1)
AreWithin-set (q ∷ ps) (w ∷ ws) (suc i) p v at within h = (h.0, AreWithin-set ps ws i p v at within h.1)

-- usable points start within their bounds
pub AreWithin-start : (ps : List Point) → AreUsable ps → AreWithin ps (start_values ps)
AreWithin-start [] h = tt
AreWithin-start (p ∷ ps) h = (h.0.start, AreWithin-start ps h.1)

-- a point that is there has a scale
pub HasScale-at : (ps : List Point) (i : ℕ) (p : Point) → AreUsable ps → Some p ≡ slice_get ps i → HasScale p
HasScale-at [] i p h at = absurd (cc)
HasScale-at (q ∷ ps) zero p h at = let same : q ≡ p = cc in
    record { scale = subst (λ (x : Point). pos 1 ≤ℤ x.scale) same h.0.scale_low }
HasScale-at (q ∷ ps) (suc i) p h at = HasScale-at ps i p h.1 at
