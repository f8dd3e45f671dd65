use Rattle.std.proofs.Common.{◌∙◌, List, ℕ, ap}
use Rattle.ots_keys.specs.Keys.{candidate, key_of_ends, finished_element}
use Rattle.ots_keys.proofs.together.key_alone.Goals as goal

pub returns : goal.returns
unfolding candidate
returns c =
    let s = c.args.signed.now in
    c.finished_key.ensures
    ∙ ap (λ (hash : List ℕ). key_of_ends c.args.ots s.key.id s.key.q (finished_element c.args.ots s.key.id s.key.q hash s.sig.now))
    c.signed_hash-hash.ensures
