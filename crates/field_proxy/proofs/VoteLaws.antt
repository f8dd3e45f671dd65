-- The orders done pass each test that the orders of all votes pass.
use Rattle.std.proofs.Common.{◌≡◌, ◌<◌, ℕ, suc, zero, Bool, true, false, List, [], ◌∷◌, ◌++◌, length, refl, sym, ap}
use Rattle.std.proofs.Common.{◌∙◌}
use Rattle.std.specs.Prelude.{Option, Some, None, ◌&&◌, nat_eq, nat_lt, if◌then◌else◌}
use Rattle.std.specs.List.{list_all}
use Rattle.std.proofs.lemmas.Bool.{and_parts}
use Rattle.message_types.specs.declared.vouchers.Order.{Order}
use Rattle.vouched_orders.specs.declared.vote.Vote.{Vote}
use Rattle.vouched_orders.specs.Vouching.{or_else, supporters, settled_by, chosen_after, chosen, greatest_number}
use Rattle.vouched_orders.specs.Vouching.{run_from, done}

module _ (p : Order → Bool) where
  order_passes : Vote → Bool
  order_passes vote = p vote.voucher.order

  settled_passes : (b : Bool) (order o : Order) → p order ≡ true →
      (if b then Some order else None) ≡ Some o → p o ≡ true
  settled_passes true order o passes is = let e : order ≡ o = cc in ap p (sym e) ∙ passes
  settled_passes false order o passes is = absurd (cc)

  either : (first rest : Option Order) (o : Order) → (first ≡ Some o → p o ≡ true) → (rest ≡ Some o → p o ≡ true) →
      or_else first rest ≡ Some o → p o ≡ true
  either (Some q) rest o one two is = one is
  either None rest o one two is = two is

  chosen_passes : (n f : ℕ) (seen rest : List Vote) (x : ℕ) (o : Order) →
      list_all (λ vote. p vote.voucher.order) rest ≡ true
      → chosen_after n f seen rest x ≡ Some o → p o ≡ true
  unfolding chosen_after
  chosen_passes n f seen [] x o all is = absurd (cc)
  chosen_passes n f seen (vote ∷ rest) x o all is =
      let parts = and_parts (p vote.voucher.order) (list_all (λ vote. p vote.voucher.order) rest) all in
      either (settled_by n f (seen ++ vote ∷ []) vote x) (chosen_after n f (seen ++ vote ∷ []) rest x) o
      (settled_passes (nat_eq vote.voucher.number x
      && nat_lt f (length (supporters n (seen ++ vote ∷ []) x vote.voucher.order))) vote.voucher.order o parts.0)
      (chosen_passes n f (seen ++ vote ∷ []) rest x o parts.1) is

  from_here : (found : Option Order) (rest : List Order) → ((o : Order) → found ≡ Some o → p o ≡ true) →
      list_all p rest ≡ true
      → list_all p (elim found [ None ↦ [] | Some o ↦ o ∷ rest ]) ≡ true
  from_here None rest one all = refl
  from_here (Some o) rest one all = ap (λ b. b && list_all p rest) (one o refl) ∙ all

  run_passes : (order_for : ℕ → Option Order) → ((x : ℕ) (o : Order) → order_for x ≡ Some o → p o ≡ true) →
      (start most : ℕ)
      → list_all p (run_from order_for start most) ≡ true
  unfolding run_from
  run_passes order_for passes start zero = refl
  run_passes order_for passes start (suc most) =
      from_here (order_for start) (run_from order_for (suc start) most) (λ o is. passes start o is)
      (run_passes order_for passes (suc start) most)

  pub done_passes : (n f : ℕ) (votes : List Vote) → list_all (λ vote. p vote.voucher.order) votes ≡ true →
      list_all p (done n f votes) ≡ true
  unfolding done
  done_passes n f votes all = run_passes (chosen n f votes) (λ x o is. chosen_passes n f [] votes x o all is)
      1 (greatest_number votes)
