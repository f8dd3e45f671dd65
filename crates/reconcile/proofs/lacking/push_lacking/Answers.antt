-- Each number beyond those certified without a gap adds its request, where nothing is certified as it.
use Rattle.std.proofs.Common.{◌+◌, ◌<◌, ◌≤◌, ◌++◌, max, ℕ, List, refl, sym, ◌∙◌, ap, arith}
use Rattle.std.proofs.lemmas.List.{append-nil}
use Rattle.protocol_rules.specs.Preorder.{certified}
use Rattle.reconcile.specs.declared.wanted.Wanted.{Wanted}
use Rattle.reconcile.specs.Lacked.{one_lacking, unless_certified}
use Rattle.reconcile.proofs.Gathered.{listed_none, pushed_one, all_listed}
use Rattle.reconcile.proofs.lacking.push_lacking.Goals as goal

pub loop-k-init : goal.loop-k-init
loop-k-init c = (
  sym (ap (λ (xs : List Wanted). c.args.lacking.now.items ++ xs)
      (listed_none (one_lacking c.args.preorder.now c.args.j) c.vector-first.result c.vector-first.result (omega arith))
      ∙ append-nil c.args.lacking.now.items),
  omega arith,
)

pub loop-k-preserved : goal.loop-k-preserved
loop-k-preserved c =
    let before : c.loop-k.k < c.args.to = c.loop-k-test.true in (
      pushed_one (one_lacking c.args.preorder.now c.args.j) c.vector-first.result c.loop-k.k c.args.lacking.now.items
          c.loop-k.lacking.items c.push_unless_certified.new.lacking.items
          (one_lacking c.args.preorder.now c.args.j (c.loop-k.k + 1)) c.loop-k.auto.k c.loop-k.invariant.0 refl
          c.in_ok-push_unless_certified.ensures,
      omega arith,
    )

pub returns : goal.returns
returns c g me taken known said is =
    let first : c.vector-first.result ≤ c.loop-k.k = c.loop-k.auto.k in
    let past : c.args.to ≤ c.loop-k.k = c.loop-k-test.false in
    let bound : c.loop-k.k ≤ max c.vector-first.result c.args.to = c.loop-k.invariant.1 in
    all_listed (one_lacking c.args.preorder.now c.args.j)
    (λ (k : ℕ). unless_certified c.args.j k (certified g known c.args.j k)) c.vector-first.result c.loop-k.k c.args.to _
    c.args.lacking.now.items c.loop-k.lacking.items c.loop-k.invariant.0 (omega arith)
    (c.vector-first.ensures g me taken known said is)
    (λ (k : ℕ). ap (unless_certified c.args.j k) (is.certified c.args.j k))
