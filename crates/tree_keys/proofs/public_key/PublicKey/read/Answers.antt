-- 56 bytes part into type codes, identifier and root in one way only. So bytes of another length, or with an
-- unknown code, are no key's, and what is read spells them.
use Rattle.std.proofs.Common.{◌<◌, ◌^◌, ◌∙◌, ap, take, arith}
use Rattle.tree_keys.proofs.KeyLaws.{key_len, key_code, key_ots_code}
use Rattle.tree_keys.proofs.public_key.PublicKey.read.Goals as goal

pub returns-then-bytes-ne56 : goal.returns-then-bytes-ne56
returns-then-bytes-ne56 c = λ key is_key. c.if-bytes-ne56.true (key_len key _ is_key)

pub returns-in_default : goal.returns-in_default
returns-in_default c = λ key is_key.
    let fits : c.number_of.result < 2 ^ 32 = omega arith in
    c.in_default.ensures key.height is_key.height
    (key_code key c.args.bytes.now c.number_of.result fits (c.number_of.ensures ∙ c.split_at.ensures.front) is_key)

pub returns-in_default-from_type_code : goal.returns-in_default-from_type_code
returns-in_default-from_type_code c = λ key is_key.
    let fits : c.number_of-2.result < 2 ^ 32 = omega arith in
    let cut = c.number_of-2.ensures ∙ c.split_at-2.ensures.front ∙ ap (take 4) c.split_at.ensures.back in
    c.in_default-from_type_code.ensures key.ots (key_ots_code key c.args.bytes.now c.number_of-2.result fits cut is_key)
