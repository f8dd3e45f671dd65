-- Of the frame that the bytes spell, the check by the ring of keys tells whether it stands. Where no frame is spelled
-- nothing was cried, so nothing stands either.
use Rattle.world_history.proofs.Answering.{if_ok}
use Rattle.printed_history.proofs.FramesFound.{one_found, none_read}
use Rattle.printed_history.proofs.frames.standing.Goals as goal

pub returns-in-Some : goal.returns-in-Some
returns-in-Some c = if_ok c.if_standing.result c.if_standing.ensures (λ found is.
    one_found c.args.ring.now c.args.bytes.now c.in-Some.frame found
    (rw c.in-Some.is at c.in_ok-found.ensures.found) is)

pub returns-in-None : goal.returns-in-None
returns-in-None c = none_read c.args.ring.now c.args.bytes.now (rw c.in-None.is at c.in_ok-found.ensures.found)
