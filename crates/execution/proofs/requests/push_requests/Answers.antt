-- Behind the requests that were there stand the master's from the first number up to the present one; each turn
-- adds the next number.
use Rattle.std.proofs.Common.{◌≡◌, ◌<◌, ◌≤◌, ◌+◌, ◌++◌, ◌∷◌, [], ℕ, map, max, sym, ◌∙◌, ap, arith, append-nil}
use Rattle.std.proofs.Common.{append_assoc}
use Rattle.std.proofs.lemmas.List.{map-append}
use Rattle.protocol_rules.specs.Execution.{requests_between}
use Rattle.execution.specs.Ran.{request_of}
use Rattle.execution.proofs.EligibleRequests.{between-none, between-more}
use Rattle.execution.proofs.requests.push_requests.Goals as goal

pub loop-number-init : goal.loop-number-init
loop-number-init c = (
  sym (append-nil (map request_of c.args.fresh.now.items)) ∙ ap (λ xs. map request_of c.args.fresh.now.items ++ xs)
      (sym (between-none c.args.master c.args.from c.args.from (omega arith))),
  omega arith,
)

pub loop-number-preserved : goal.loop-number-preserved
loop-number-preserved c =
    let low : c.args.from ≤ c.loop-number.number = c.loop-number.auto.number in
    let put = rw c.in_ok-push.was at c.push.ensures.items in (
      ap (map request_of) put ∙ map-append request_of c.loop-number.fresh.items _
          ∙ ap (λ xs. xs ++ request_of (c.args.master, c.loop-number.number + 1) ∷ []) c.loop-number.invariant.0
          ∙ append_assoc (map request_of c.args.fresh.now.items)
          (requests_between c.args.master c.args.from c.loop-number.number)
          (request_of (c.args.master, c.loop-number.number + 1) ∷ [])
          ∙ ap (λ xs. map request_of c.args.fresh.now.items ++ xs)
          (sym (between-more c.args.master c.args.from c.loop-number.number low)),
      omega arith,
    )
