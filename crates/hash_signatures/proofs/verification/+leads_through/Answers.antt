-- Without a signed key before it nothing leads through; else the key does just where it signs the next one, and that one
-- leads through the rest.
use Rattle.std.proofs.Common.{◌≤◌, ◌-◌, arith, refl}
use Rattle.hash_signatures.proofs.LeadLaws.{leads_before, leads_after}
use Rattle.hash_signatures.proofs.verification.+leads_through.Goals as goal

pub returns-in_default : goal.returns-in_default
returns-in_default g t c =
    let low : 1 ≤ c.args.n = omega arith in (
      (λ no. cc),
      (λ leads. absurd (c.in_default.ensures.level (c.args.n - 1) c.args.message.now (leads_before c.args.n _ _ _ low leads))),
    )

pub returns-then-not-signs : goal.returns-then-not-signs
returns-then-not-signs g t c =
    let low : 1 ≤ c.args.n = omega arith in (
      (λ no. cc),
      (λ leads.
          let both = (c.in-Some.ensures.level (c.args.n - 1) c.args.message.now).0 (leads_before c.args.n _ _ _ low leads) in
          let yes = c.if-not-signs.ensures.1 both.0 in cc),
    )

pub returns : goal.returns
returns g t c =
    let low : 1 ≤ c.args.n = omega arith in
    let level = c.in-Some.ensures.level (c.args.n - 1) c.args.message.now in (
      (λ yes. leads_after c.args.n _ _ _ low (level.1 (c.if-not-signs.ensures.0 refl, c.leads_through.ensures.0 yes))),
      (λ leads. c.leads_through.ensures.1 (level.0 (leads_before c.args.n _ _ _ low leads)).1),
    )
