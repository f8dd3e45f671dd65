-- A signature parts in one way only into leaf, one-time signature, type code and path. Each part that is wrong
-- rules it out, and a path that leads to the root shows that it is one.
use Rattle.std.proofs.Common.{◌<◌, ◌^◌, ◌∙◌, ap, sym, drop, take, refl, arith}
use Rattle.ots_keys.specs.Parameters.{signature_len}
use Rattle.tree_keys.proofs.Heights.{height_le}
use Rattle.tree_keys.proofs.KeyLaws.{signed_len, signed_code, signed_leaf, signed_leads, leads_signed}
use Rattle.tree_keys.proofs.public_key.PublicKey.parts.Goals as goal

pub returns-then-sig-signature_len : goal.returns-then-sig-signature_len
returns-then-sig-signature_len c = λ message signed.
    c.if-sig-signature_len.true (signed_len _ _ _ signed ∙ sym c.signature_len.ensures)

pub returns-then-number_of-code_of_height : goal.returns-then-number_of-code_of_height
returns-then-number_of-code_of_height c = λ message signed.
    let fits : c.number_of.result < 2 ^ 32 = omega arith in
    let second = c.split_at-2.ensures.back ∙ ap (λ n. drop n c.split_at.result.1.now) c.signature_len-2.ensures
    ∙ ap (drop (signature_len c.args.self.now.ots)) c.split_at.ensures.back in
    let cut = c.number_of.ensures ∙ c.split_at-3.ensures.front ∙ ap (take 4) second in
    c.if-number_of-code_of_height.true
    (signed_code c.args.self.now message c.args.sig.now c.number_of.result fits (height_le _ c.requires) cut signed
    ∙ sym c.code_of_height.ensures)

pub returns-then-not-has_leaf : goal.returns-then-not-has_leaf
returns-then-not-has_leaf c = λ message signed.
    let fits : c.number_of-q.result < 2 ^ 32 = omega arith in
    let cut = c.number_of-q.ensures ∙ c.split_at.ensures.front in
    let leaf = signed_leaf c.args.self.now message c.args.sig.now c.number_of-q.result fits
    (height_le _ c.requires) cut signed in
    let below = signed.leaf in
    let no = c.if-not-has_leaf.ensures.1 (omega arith) in cc

pub returns : goal.returns
returns c =
    let fits : c.number_of-q.result < 2 ^ 32 = omega arith in
    let len = c.signature_len-2.ensures in
    let whole = c.if-sig-signature_len.false ∙ c.signature_len.ensures in
    let rest = c.split_at.ensures.back in
    let cut_q = c.number_of-q.ensures ∙ c.split_at.ensures.front in
    let cut_ots = c.split_at-2.ensures.front ∙ ap (λ n. take n c.split_at.result.1.now) len
    ∙ ap (take (signature_len c.args.self.now.ots)) rest in
    let second = c.split_at-2.ensures.back ∙ ap (λ n. drop n c.split_at.result.1.now) len
    ∙ ap (drop (signature_len c.args.self.now.ots)) rest in
    let cut_code = c.number_of.ensures ∙ c.split_at-3.ensures.front ∙ ap (take 4) second in
    let cut_path = c.split_at-3.ensures.back ∙ ap (drop 4) second in
    let leaf = c.if-not-has_leaf.ensures.0 refl in
    let code = c.if-number_of-code_of_height.false ∙ c.code_of_height.ensures in
    record {
      leaf = leaf;
      levels = omega arith;
      leads = λ message. (
        (λ signed. signed_leads c.args.self.now message c.args.sig.now c.number_of-q.result _ _ fits
            (height_le _ c.requires) cut_q cut_ots cut_path signed),
        (λ leads. leads_signed c.args.self.now message c.args.sig.now c.number_of-q.result c.number_of.result
            _ _ leaf (omega arith) code
            cut_q cut_ots cut_code cut_path leads),
      );
    }
