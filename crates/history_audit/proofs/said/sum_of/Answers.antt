-- The sum so far is that of the numbers gone over, modulo 2^64 at each step as in the definition.
use Rattle.std.proofs.Common.{ℕ, ◌+◌, ◌%◌, ◌^◌, ◌∙◌, ap, sym, get_or}
use Rattle.std.proofs.lemmas.List.{take_all}
use Rattle.std.proofs.lemmas.List.Sums.{fold_more}
use Rattle.history_audit.specs.Said.{sum_of}
use Rattle.history_audit.proofs.said.sum_of.Goals as goal

pub loop-number-preserved : goal.loop-number-preserved
loop-number-preserved c =
    ap (λ (s : ℕ). (s + get_or c.args.numbers.now c.loop-number.number-index 0) % 2 ^ 64) c.loop-number.invariant
    ∙ sym (fold_more (λ (sum : ℕ) (x : ℕ). (sum + x) % 2 ^ 64) 0 c.args.numbers.now c.loop-number.number-index
    0 c.loop-number-test.true)

pub returns : goal.returns
returns c = c.loop-number.invariant
    ∙ ap sum_of (take_all c.loop-number.number-index c.args.numbers.now c.loop-number-test.false)
