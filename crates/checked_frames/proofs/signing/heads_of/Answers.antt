-- Each turn adds the head of the next place, so that the heads so far are those of all places below.
use Rattle.std.proofs.Common.{◌∷◌, [], ◌++◌, map, sym, ap, ◌∙◌}
use Rattle.quorum_sets.specs.Masters.{numbers_below}
use Rattle.checked_frames.specs.Heads.{head_through}
use Rattle.quorum_sets.proofs.Numbered.{map_more}
use Rattle.checked_frames.proofs.signing.heads_of.Goals as goal

pub loop-place-init : goal.loop-place-init
unfolding numbers_below
loop-place-init c = c.in_ok-heads.ensures.items

pub loop-place-preserved : goal.loop-place-preserved
loop-place-preserved c =
    let place = c.loop-place.place in
    let f = head_through c.args.levels.now c.args.count in
    let more = map_more f place in
    c.in_ok-push.ensures.items ∙ ap (λ heads. heads ++ c.in_ok-head_of.field-0 ∷ []) c.loop-place.invariant
    ∙ ap (λ head. map f (numbers_below place) ++ head ∷ []) c.in_ok-head_of.ensures ∙ sym more
