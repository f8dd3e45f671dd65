-- A matrix without any summary is that of no words known: every master's place is empty, so each row of it is.
use Rattle.std.proofs.Common.{◌≡◌, ℕ, zero, suc, Option, None, get_or, refl, sym, ◌∙◌, ◌+◌, ◌≤◌, ap, arith}
use Rattle.protocol_rules.specs.Group.{group_of}
use Rattle.message_types.specs.declared.signed.Signed.{Signed}
use Rattle.message_types.specs.declared.preordering.PoSummary.{PoSummary}
use Rattle.std.specs.Prelude.{replicate}
use Rattle.std.specs.List.{sum}
use Rattle.summary_matrix.specs.Held.{row_of}
use Rattle.summary_matrix.proofs.Latest.{matrix-none, reach-nothing}
use Rattle.summary_matrix.proofs.matrix.Matrix.new.Goals as goal

abbrev no_summary : Option (Signed PoSummary)
no_summary = None

none_at : (n j : ℕ) → get_or (replicate n no_summary) j None ≡ None
none_at zero j = refl
none_at (suc n) zero = refl
none_at (suc n) (suc j) = none_at n j

small_sum : (o : Option (Signed PoSummary)) → o ≡ None → sum (row_of o) ≤ 57344
small_sum o none = let e : sum (row_of o) ≡ 0 = ap (λ (h : Option (Signed PoSummary)). sum (row_of h)) none in omega arith

pub invariant_of-result : goal.invariant_of-result
invariant_of-result c = (
  λ j. small_sum (get_or (replicate 14 no_summary) j None) (none_at 14 j),
  λ j lt. c.none.ensures j lt ∙ sym (reach-nothing c.args.sizes.n c.args.sizes.q j (replicate 14 no_summary) (none_at 14)),
  λ j lt. c.none-2.ensures j lt
      ∙ sym (reach-nothing c.args.sizes.n (c.args.sizes.f + 1) j (replicate 14 no_summary) (none_at 14)),
)

pub returns-clause-nothing : goal.returns-clause-nothing
returns-clause-nothing c clients = matrix-none (group_of c.args.sizes clients) _ refl refl refl (none_at 14)
