-- The copied heights, the public key of the top tree and the first path are those of the seed, identifier and
-- heights given: so what a key state keeps true holds from the start.
use Rattle.std.proofs.Common.{◌≡◌, ◌≤◌, ◌∙◌, ◌^◌, ap, sym, refl, subst, List, ℕ, length}
use Rattle.hash_signatures.specs.Signatures.{total, key_public}
use Rattle.hash_signatures.specs.State.{key_from, IsLevelCount, HasMadeHeights}
use Rattle.hash_signatures.specs.Path.{IsKeptPath}
use Rattle.hash_signatures.proofs.KeyLaws.{public_is}
use Rattle.hash_signatures.proofs.key_state.resumed.Goals as goal

pub invariant_of-result : goal.invariant_of-result
invariant_of-result c =
    let hs = c.args.heights.now in
    let copy : c.in_ok-copied.copied.items ≡ hs = c.in_ok-copied.ensures.items in
    let back = sym copy in
    let key = key_from c.args.seed.now c.args.id.now hs c.args.ots in
    let public = c.hss_public-public.ensures
    ∙ public_is key c.in-Some.height.now c.in-Some._lower.now _ _ c.in-Some.ensures.cases.0 refl c.in_ok-top.ensures in
    record {
      levels = subst (λ (l : List ℕ). IsLevelCount (length l)) back c.requires.levels;
      heights = subst HasMadeHeights back c.requires.heights;
      id = c.told-id;
      within = subst (λ (l : List ℕ). c.args.used ≤ 2 ^ total l) back c.requires.used;
      public_key = public ∙ ap (λ (l : List ℕ). key_public (key_from c.args.seed.now c.args.id.now l c.args.ots)) back;
      path = subst (λ (l : List ℕ). IsKeptPath (key_from c.args.seed.now c.args.id.now l c.args.ots)
          c.in_ok-path.path) back c.in_ok-path.ensures;
    }
