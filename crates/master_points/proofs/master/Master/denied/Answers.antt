-- None of the interlocks before the place denies, so the first that does is the definition's. A place is below
-- 2^32 as the list is no longer than that.
use Rattle.std.proofs.Common.{◌≡◌, ◌<◌, ◌∙◌, ap, subst, sym, List, ℕ, ℤ, Some, None, true, false, get_or, position}
use Rattle.std.proofs.Common.{arith, to_z, of_z, w64}
use Rattle.std.proofs.lemmas.Int.{to_z-of_z}
use Rattle.interlocks.specs.declared.interlock.Interlock.{Interlock}
use Rattle.master_points.specs.Effects.{denies}
use Rattle.master_points.specs.Orders.{Held}
use Rattle.master_points.proofs.EffectLaws.{position-at, position-nowhere}
use Rattle.master_points.proofs.master.Master.denied.Goals as goal

pub returns-then-denies-clause-place : goal.returns-then-denies-clause-place
returns-then-denies-clause-place c =
    let whole : c.as_slice-interlocks.result.now ≡ c.args.self.now.site.interlocks = c.as_slice-interlocks.ensures
    ∙ ap (λ (h : Held). h.site.interlocks) c.self.view_is in
    let same : to_z w64 (of_z w64 c.args.value) ≡ c.args.value = to_z-of_z w64 c.args.value c.ranges.value in
    let on : denies c.args.self.now.state c.args.number c.args.value
    (get_or c.as_slice-interlocks.result.now c.loop-place.place c.index-interlocks-place.result) ≡ true =
    ap (denies c.args.self.now.state c.args.number c.args.value) (sym c.index-interlocks-place.is)
    ∙ (ap (λ (v : ℤ). denies c.args.self.now.state c.args.number v c.index-interlocks-place.result) (sym same)
    ∙ (sym c.denies.ensures ∙ c.if-denies.true)) in
    let before : (k : ℕ) (d : Interlock) → k < c.loop-place.place →
    denies c.args.self.now.state c.args.number c.args.value (get_or c.as_slice-interlocks.result.now k d) ≡ false =
    λ k d low. ap (λ (v : ℤ). denies c.args.self.now.state c.args.number v
    (get_or c.as_slice-interlocks.result.now k d)) (sym same) ∙ c.loop-place.invariant k d low in
    subst (λ (xs : List Interlock). Some c.loop-place.place ≡ position
    (denies c.args.self.now.state c.args.number c.args.value) xs) whole
    (position-at (denies c.args.self.now.state c.args.number c.args.value) c.as_slice-interlocks.result.now
    c.loop-place.place c.index-interlocks-place.result c.loop-place-test.true
    (λ k low. before k c.index-interlocks-place.result low) on)

pub returns-clause-place : goal.returns-clause-place
returns-clause-place c =
    let whole : c.as_slice-interlocks.result.now ≡ c.args.self.now.site.interlocks = c.as_slice-interlocks.ensures
    ∙ ap (λ (h : Held). h.site.interlocks) c.self.view_is in
    let same : to_z w64 (of_z w64 c.args.value) ≡ c.args.value = to_z-of_z w64 c.args.value c.ranges.value in
    let before : (k : ℕ) (d : Interlock) → k < c.loop-place.place →
    denies c.args.self.now.state c.args.number c.args.value (get_or c.as_slice-interlocks.result.now k d) ≡ false =
    λ k d low. ap (λ (v : ℤ). denies c.args.self.now.state c.args.number v
    (get_or c.as_slice-interlocks.result.now k d)) (sym same) ∙ c.loop-place.invariant k d low in
    subst (λ (xs : List Interlock). None ≡ position (denies c.args.self.now.state c.args.number c.args.value) xs) whole
    (position-nowhere (denies c.args.self.now.state c.args.number c.args.value) c.as_slice-interlocks.result.now
    (λ k d low. before k d (let end = c.loop-place-test.false in omega arith)))
