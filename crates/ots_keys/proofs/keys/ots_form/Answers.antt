-- A signature of this type has its length and begins with its code.
use Rattle.std.proofs.Common.{◌∙◌, ap, sym}
use Rattle.wire_parts.specs.Fields.{u32_bytes}
use Rattle.ots_keys.proofs.keys.ots_form.Goals as goal

pub returns-then-sig-signature_len : goal.returns-then-sig-signature_len
returns-then-sig-signature_len c = (
  (λ no. cc),
  (λ form. absurd (c.if-sig-signature_len.true (form.len ∙ sym c.signature_len.ensures))),
)

pub returns : goal.returns
returns c = (
  (λ yes. record {
    code = c.has_code.ensures.0 yes ∙ ap u32_bytes c.type_code.ensures;
    len = c.if-sig-signature_len.false ∙ c.signature_len.ensures;
  }),
  (λ form. c.has_code.ensures.1 (form.code ∙ ap u32_bytes (sym c.type_code.ensures))),
)
