-- Sums that stop at the greatest number of 64 bits decide as those of the naturals do, since where they stop
-- they are above the limit on numbers too.
use Rattle.std.proofs.Common.{◌≡◌, ◌+◌, ◌-◌, ◌^◌, ◌<◌, ◌≤◌, length, max, inl, inr, ◌∙◌, ap, arith, rules}
use Rattle.leader_proposals.proofs.Offering.{sum-within, sum-beyond, within-some, within-none}
use Rattle.leader_proposals.proofs.progress.Progress.next_number.Goals as goal
use Rattle.leader_proposals.proofs.progress.Progress.next_number.Goals.{then-number-gt-MOST_NUMBER-via-then-number-gt-MOST_NUMBER}
use Rattle.leader_proposals.proofs.progress.Progress.next_number.Goals.{then-number-gt-MOST_NUMBER-via-else-number-gt-MOST_NUMBER+then-saturating_sub-gt-WINDOW}

pub returns-then-number-gt-MOST_NUMBER : goal.returns-then-number-gt-MOST_NUMBER
returns-then-number-gt-MOST_NUMBER c =
    let sum = c.args.plan.now.base + c.len.result in
    let real = max (c.args.plan.now.base + length c.args.plan.now.rows) c.args.self.now.greatest + 1 in
    let same : max sum c.args.self.now.greatest + 1 ≡ real =
    ap (λ n. max (c.args.plan.now.base + n) c.args.self.now.greatest + 1) c.len.ensures in
    within-none c.args.self.now.greatest c.args.plan.now c.args.stable (elim c.then-number-gt-MOST_NUMBER.branch [
      | then-number-gt-MOST_NUMBER-via-then-number-gt-MOST_NUMBER w ↦
          let beyond : 4096 < max sum c.args.self.now.greatest + 1 =
          sum-beyond sum c.args.self.now.greatest (2 ^ 64 - 1) c.saturating_add-planned.result c.max.result
          c.saturating_add-number.result c.saturating_add-planned.ensures c.max.ensures
          c.saturating_add-number.ensures (omega arith) in
          let far : 4096 < real = omega arith in inl far
      | then-number-gt-MOST_NUMBER-via-else-number-gt-MOST_NUMBER+then-saturating_sub-gt-WINDOW w ↦
          let number : c.saturating_add-number.result ≡ max sum c.args.self.now.greatest + 1 =
          sum-within sum c.args.self.now.greatest (2 ^ 64 - 1) c.saturating_add-planned.result c.max.result
          c.saturating_add-number.result (search rules) c.saturating_add-planned.ensures c.max.ensures
          c.saturating_add-number.ensures (omega arith) in
          let far : 16 < real - c.args.stable = omega arith in inr far
    ])

pub returns : goal.returns
returns c =
    let number : c.saturating_add-number.result ≡ max (c.args.plan.now.base + length c.args.plan.now.rows)
    c.args.self.now.greatest + 1 =
    sum-within (c.args.plan.now.base + c.len.result) c.args.self.now.greatest (2 ^ 64 - 1)
    c.saturating_add-planned.result c.max.result c.saturating_add-number.result (search rules)
    c.saturating_add-planned.ensures c.max.ensures c.saturating_add-number.ensures (omega arith)
    ∙ ap (λ n. max (c.args.plan.now.base + n) c.args.self.now.greatest + 1) c.len.ensures in
    let near : c.saturating_add-number.result - c.args.stable ≤ 16 = omega arith in
    let le : c.saturating_add-number.result ≤ 4096 = omega arith in
    within-some c.args.self.now.greatest c.args.plan.now c.args.stable c.saturating_add-number.result number le near
