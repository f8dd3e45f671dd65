-- The levels of the tree over the bodies are the definition's, so the heads hold their paths and the message holds
-- its root.
use Rattle.std.proofs.Common.{length, map, refl, ◌∙◌, ap}
use Rattle.quorum_sets.specs.Masters.{numbers_below}
use Rattle.message_types.specs.Texts.{body_text}
use Rattle.checked_frames.specs.Heads.{head_through}
use Rattle.checked_frames.proofs.SigningLaws.{several_are}
use Rattle.checked_frames.proofs.signing.several_unsigned.Goals as goal

pub returns : goal.returns
returns c =
    let count = length c.args.bodies.now in
    several_are body_text c.args.bodies.now c.in_ok-leaves.leaves c.in_ok-tree.tree.levels c.in_ok-tree.tree.root
    c.in_ok-message.message.items c.in_ok-heads.heads.items count c.requires.some refl c.in_ok-leaves.ensures
    c.in_ok-tree.ensures.levels c.in_ok-tree.ensures.root
    (c.in_ok-heads.ensures ∙ ap (λ ls. map (head_through ls count) (numbers_below count)) c.as_slice.ensures)
    (c.in_ok-message.ensures.items ∙ c.batch_text.ensures)
