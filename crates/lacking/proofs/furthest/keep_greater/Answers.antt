use Rattle.std.proofs.Common.{◌≡◌, set, ap, arith}
use Rattle.lacking.proofs.Coming.{passed, kept}
use Rattle.lacking.proofs.furthest.keep_greater.Goals as goal

pub returns-then-signer-lt-MOST_MASTERS : goal.returns-then-signer-lt-MOST_MASTERS
returns-then-signer-lt-MOST_MASTERS c j few =
    kept c.args.numbers.now _ c.args.signer c.args.s j (omega arith)
    (ap (set c.args.numbers.now c.args.signer) c.max.ensures)

pub returns-else-signer-lt-MOST_MASTERS : goal.returns-else-signer-lt-MOST_MASTERS
returns-else-signer-lt-MOST_MASTERS c j few =
    passed c.args.numbers.now c.args.signer c.args.s j (λ (e : c.args.signer ≡ j). omega (arith, c.if-signer-lt-MOST_MASTERS.false))
