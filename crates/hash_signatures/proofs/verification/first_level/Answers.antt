-- The code cuts the signature where the definition does: a rest too short rules out that a key leads through, and the parts
-- are the definition's.
use Rattle.std.proofs.Common.{arith}
use Rattle.hash_signatures.proofs.LeadLaws.{lead_cuts, lead_key, lead_of_cuts, lead_of_parts, parts_of_lead}
use Rattle.hash_signatures.proofs.verification.first_level.Goals as goal

pub returns-in_default-clause-level : goal.returns-in_default-clause-level
returns-in_default-clause-level c = λ n message leads.
    let (key, is_key) = lead_key n c.args.public.now message c.args.sig.now leads in
    c.in_default.ensures key is_key

pub returns-then-sig-len-clause-level : goal.returns-then-sig-len-clause-level
returns-then-sig-len-clause-level c = λ n message leads.
    let cuts = lead_cuts n c.in-Some.key c.args.public.now message c.args.sig.now c.in-Some.ensures leads in
    let room = cuts.room in
    absurd (omega arith)

pub returns-clause-height : goal.returns-clause-height
returns-clause-height c = c.in-Some.ensures.height

pub returns-clause-level : goal.returns-clause-level
returns-clause-level c = λ n message. (
  (λ leads. parts_of_lead n c.in-Some.key message c.args.sig.now _ _ _ _ c.signature_len-len.result
      c.signature_len-len.ensures c.split_at.ensures.front c.split_at.ensures.back c.split_at-2.ensures.front
      c.split_at-2.ensures.back (lead_cuts n c.in-Some.key c.args.public.now message c.args.sig.now c.in-Some.ensures leads)),
  (λ (signed, leads). lead_of_cuts n c.in-Some.key _ _ _ c.in-Some.ensures
      (lead_of_parts n c.in-Some.key message c.args.sig.now _ _ _ _ c.signature_len-len.result
      c.signature_len-len.ensures c.split_at.ensures.front c.split_at.ensures.back c.split_at-2.ensures.front
      c.split_at-2.ensures.back c.if-sig-len.false signed leads)),
)
