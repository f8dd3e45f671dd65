-- What the queue tells of a step, without what it says of itself.
use Rattle.std.proofs.Common.{◌≡◌, true, [], Option, Some, None, Result, Ok, Err, MatchOption, MatchResult, ap, ◌∙◌}
use Rattle.inboxes.specs.declared.rule.Known.{Known}
use Rattle.inboxes.specs.Steps.{Took, Posted, Saw}

module _ {T : Type 0} (Fits : T → Type 0) (S : Type 0) (v w : Known T) where
  pub took_told : (result : Option T) → MatchOption result ((w ≡ v) × Saw v []) (λ x. Took Fits v x w × S) →
      MatchOption result ((w ≡ v) × Saw v []) (λ x. Took Fits v x w)
  took_told None told = told
  took_told (Some x) told = told.0

  pub took_live : (result : Option T) → MatchOption result ((w ≡ v) × Saw v []) (λ x. Took Fits v x w × S) →
      v.live ≡ true → w.live ≡ true
  took_live None told live = ap (λ (u : Known T). u.live) told.0 ∙ live
  took_live (Some x) told live = ap (λ (u : Known T). u.live) told.0.4 ∙ live

module _ {T U : Type 0} (S R : Type 0) (v w : Known T) (x : T) where
  pub posted_told : (result : Result U T) →
      MatchResult result (λ _. Posted v x w × S) (λ back. (back ≡ x) × (w ≡ v) × R)
      → MatchResult result (λ _. Posted v x w) (λ back. (back ≡ x) × (w ≡ v))
  posted_told (Ok done) told = told.0
  posted_told (Err back) told = (told.0, told.1)

  pub posted_live : (result : Result U T) →
      MatchResult result (λ _. Posted v x w × S) (λ back. (back ≡ x) × (w ≡ v) × R) → v.live ≡ true → w.live ≡ true
  posted_live (Ok done) told live = ap (λ (u : Known T). u.live) told.0.3 ∙ live
  posted_live (Err back) told live = ap (λ (u : Known T). u.live) told.1 ∙ live
