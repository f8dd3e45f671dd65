-- Of two lists that begin with updates of different clients neither begins the other.
use Rattle.std.proofs.Common.{◌≡◌, ℕ, List, [], ◌∷◌, ap, inl, inr, ◌⊎◌, arith}
use Rattle.plain_lists.specs.Lists.{Begins}
use Rattle.message_types.specs.declared.updates.Update.{Update}
use Rattle.history_examples.specs.Words.{update, other_update}

abbrev first_client : List Update → ℕ
first_client [] = 0
first_client (u ∷ rest) = u.client

begun : (u v : Update) → Begins (u ∷ []) (v ∷ []) → v.client ≡ u.client
begun u v begins = ap first_client begins.same

pub apart : Begins (update ∷ []) (other_update ∷ []) ⊎ Begins (other_update ∷ []) (update ∷ []) → ⊥
apart begins = elim begins [
  | inl first ↦ let same : ◌≡◌ {A = ℕ} 1 0 = begun update other_update first in omega arith
  | inr second ↦ let same : ◌≡◌ {A = ℕ} 0 1 = begun other_update update second in omega arith
]
