-- Where length and type code are right the bytes have the form of a signature, and the key is that of the
-- finished chains. Each refusal shows that they don't have that form.
use Rattle.std.proofs.Common.{◌∙◌, ap, refl}
use Rattle.ots_keys.specs.Keys.{candidate, key_of_ends, finished_element}
use Rattle.ots_keys.proofs.keys.ots_candidate.Goals as goal

pub returns : goal.returns
unfolding candidate
returns c =
    let ots = c.args.ots in
    let ends = finished_element ots c.args.id.now c.args.q in (
      c.if-not-ots_form.ensures.0 refl,
      c.finished_key.ensures
          ∙ ap (λ hash. key_of_ends ots c.args.id.now c.args.q (ends hash c.args.sig.now)) c.hash_parts-hash.ensures,
    )
