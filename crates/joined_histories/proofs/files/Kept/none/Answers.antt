-- Each turn adds an empty list.
use Rattle.std.proofs.Common.{◌≡◌, ◌∷◌, ◌++◌, ◌∙◌, ℕ, [], ap, arith}
use Rattle.std.specs.Prelude.{replicate}
use Rattle.std.proofs.lemmas.List.{replicate_more}
use Rattle.joined_histories.proofs.files.Kept.none.Goals as goal

pub loop-actor-init : goal.loop-actor-init
loop-actor-init c = c.in_ok-lists.ensures.items

pub loop-actor-preserved : goal.loop-actor-preserved
loop-actor-preserved c =
    c.in_ok-push.ensures.items ∙ (λ i. c.loop-actor.invariant i ++ c.new.ensures i ∷ [])
    ∙ replicate_more c.loop-actor._actor []

pub returns : goal.returns
returns c =
    let all : c.loop-actor._actor ≡ c.args.actors = omega (arith, c.loop-actor-test.false) in
    λ i. record {
      lists = (c.loop-actor.invariant ∙ ap (λ (n : ℕ). replicate n []) all) i;
      gave = c.in_ok-gave.ensures.items_if_clones_equal (λ y h. h) i;
    }
