-- Each turn adds the public key of the next actor, so the list so far is always the definition's list for the
-- actors before it.
use Rattle.std.proofs.Common.{◌++◌, ◌∷◌, [], sym, ap, ◌∙◌}
use Rattle.actor_keys.specs.Keys.{public_keys}
use Rattle.actor_keys.proofs.KeyLists.{none_yet, one_more}
use Rattle.actor_keys.proofs.keys.publics_of.Goals as goal

pub loop-actor-init : goal.loop-actor-init
loop-actor-init c = c.in_ok-publics.ensures.items ∙ sym (none_yet c.args.seed.now c.args.heights.now)

pub loop-actor-preserved : goal.loop-actor-preserved
loop-actor-preserved c =
    let before = public_keys c.args.seed.now c.args.heights.now c.loop-actor.actor in
    c.in_ok-push.ensures.items ∙ ap (λ xs. xs ++ c.in_ok-public.public ∷ []) c.loop-actor.invariant
    ∙ ap (λ x. before ++ x ∷ []) c.in_ok-public.ensures ∙ sym (one_more c.args.seed.now c.args.heights.now c.loop-actor.actor)
