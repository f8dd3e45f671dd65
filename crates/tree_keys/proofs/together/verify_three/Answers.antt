-- A signature without its parts rules out that all are right; else they are just where their parts lead to the roots.
use Rattle.std.proofs.Common.{refl}
use Rattle.tree_keys.proofs.together.verify_three.Goals as goal

pub returns-in_default : goal.returns-in_default
returns-in_default c = (
  (λ no. cc),
  (λ (a, b, d). absurd (c.in_default.ensures c.args.a.now.message.now a)),
)

pub returns-in_default-parts : goal.returns-in_default-parts
returns-in_default-parts c = (
  (λ no. cc),
  (λ (a, b, d). absurd (c.in_default-parts.ensures c.args.b.now.message.now b)),
)

pub returns-in_default-parts-2 : goal.returns-in_default-parts-2
returns-in_default-parts-2 c = (
  (λ no. cc),
  (λ (a, b, d). absurd (c.in_default-parts-2.ensures c.args.c.now.message.now d)),
)

pub lead_together-requires-clause-second : goal.lead_together-requires-clause-second
lead_together-requires-clause-second c = c.if-not-have_one_type.ensures.second refl

pub lead_together-requires-clause-third : goal.lead_together-requires-clause-third
lead_together-requires-clause-third c = c.if-not-have_one_type.ensures.third refl

pub returns : goal.returns
returns c =
    let x = c.in-Some.ensures.leads c.args.a.now.message.now in
    let y = c.in-Some-parts.ensures.leads c.args.b.now.message.now in
    let z = c.in-Some-parts-2.ensures.leads c.args.c.now.message.now in (
      (λ yes. let (a, b, d) = c.lead_together.ensures.0 yes in (x.1 a, y.1 b, z.1 d)),
      (λ (a, b, d). c.lead_together.ensures.1 (x.0 a, y.0 b, z.0 d)),
    )
