use Rattle.std.proofs.Common.{refl, ◌∙◌}
use Rattle.hash_signatures.specs.State.{key_from}
use Rattle.hash_signatures.proofs.KeyLaws.{public_is}
use Rattle.hash_signatures.proofs.key_state.public_key.Goals as goal

pub returns : goal.returns
returns c =
    let key = key_from c.args.seed.now c.args.id.now c.args.heights.now c.args.ots in
    c.hss_public.ensures
    ∙ public_is key c.in-Some.height.now c.in-Some._lower.now _ _ c.in-Some.ensures.cases.0 refl c.in_ok-top.ensures
