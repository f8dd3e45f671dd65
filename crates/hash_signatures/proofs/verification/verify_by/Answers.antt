-- Levels and count of signed keys are read where the definition reads them. Levels outside 1 to 8, or a count
-- that isn't one less, rule out that the signature verifies; the rest is whether the key leads through.
use Rattle.std.proofs.Common.{◌≤◌, ◌<◌, ◌^◌, ◌∙◌, arith, sym, subst, drop}
use Rattle.hash_signatures.specs.Verification.{LeadsThrough}
use Rattle.hash_signatures.proofs.LeadLaws.{verifies_levels, verifies_count, verifies_leads, leads_verify}
use Rattle.hash_signatures.proofs.verification.verify_by.Goals as goal
use Rattle.hash_signatures.proofs.verification.verify_by.Goals.{then-levels-eq0-via-then-levels-eq0}
use Rattle.hash_signatures.proofs.verification.verify_by.Goals.{then-levels-eq0-via-else-levels-eq0+then-levels-gt8}

pub returns-then-levels-eq0 : goal.returns-then-levels-eq0
returns-then-levels-eq0 g c =
    let fits : c.number_of-levels.result < 2 ^ 32 = omega arith in (
      (λ no. cc),
      (λ v.
          let levels = verifies_levels c.args.public.now c.args.message.now c.args.sig.now _ fits
          (c.number_of-levels.ensures ∙ c.split_at.ensures.front) v in
          let low = v.low in
          let high = v.high in
          elim c.then-levels-eq0.branch [
            | then-levels-eq0-via-then-levels-eq0 w ↦ absurd (omega arith)
            | then-levels-eq0-via-else-levels-eq0+then-levels-gt8 w ↦ absurd (omega arith)
          ]),
    )

pub returns-then-count-levels : goal.returns-then-count-levels
returns-then-count-levels g c =
    let fits : c.number_of-levels.result < 2 ^ 32 = omega arith in
    let count_fits : c.number_of-count.result < 2 ^ 32 = omega arith in (
      (λ no. cc),
      (λ v.
          let levels = verifies_levels c.args.public.now c.args.message.now c.args.sig.now _ fits
          (c.number_of-levels.ensures ∙ c.split_at.ensures.front) v in
          let count = verifies_count c.args.public.now c.args.message.now c.args.sig.now _ count_fits
          (c.number_of-count.ensures ∙ c.split_at-2.ensures.front) v in
          absurd (c.if-count-levels.true (omega arith))),
    )

pub returns : goal.returns
returns g c =
    let public = c.args.public.now in
    let message = c.args.message.now in
    let sig = c.args.sig.now in
    let count = c.number_of-count.result in
    let fits : count < 2 ^ 32 = omega arith in
    let low : 1 ≤ c.number_of-levels.result = omega arith in
    let high : c.number_of-levels.result ≤ 8 = omega arith in
    let e_levels = c.number_of-levels.ensures ∙ c.split_at.ensures.front in
    let e_count = c.number_of-count.ensures ∙ c.split_at-2.ensures.front in (
      (λ yes.
          let leads = c.leads_by.ensures.0 yes in
          let at_key : LeadsThrough count (drop 4 public) message c.split_at-2.result.1.now =
          subst (λ x. LeadsThrough count x message c.split_at-2.result.1.now) c.split_at.ensures.back leads in
          let at_rest : LeadsThrough count (drop 4 public) message (drop 4 sig) =
          subst (λ x. LeadsThrough count (drop 4 public) message x) c.split_at-2.ensures.back at_key in
          leads_verify public message sig c.number_of-levels.result count low high c.if-count-levels.false
          e_levels e_count at_rest),
      (λ v.
          let leads = verifies_leads public message sig count fits e_count v in
          let at_key : LeadsThrough count c.split_at.result.1.now message (drop 4 sig) =
          subst (λ x. LeadsThrough count x message (drop 4 sig)) (sym c.split_at.ensures.back) leads in
          c.leads_by.ensures.1 (subst (λ x. LeadsThrough count c.split_at.result.1.now message x)
          (sym c.split_at-2.ensures.back) at_key)),
    )
