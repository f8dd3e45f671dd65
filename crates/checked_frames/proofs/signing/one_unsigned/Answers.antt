use Rattle.message_types.specs.Texts.{body_text}
use Rattle.checked_frames.proofs.SigningLaws.{one_is}
use Rattle.checked_frames.proofs.signing.one_unsigned.Goals as goal

pub returns : goal.returns
returns c =
    one_is body_text c.args.bodies.now c.index-bodies-0.result c.in_ok-message.message.items
    c.in_ok-heads.heads.items c.requires.one c.index-bodies-0.is c.in_ok-heads.ensures c.in_ok-message.ensures
