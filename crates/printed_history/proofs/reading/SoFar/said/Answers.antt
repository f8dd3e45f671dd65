-- What is posted at a stamp and place is the frame said there, if it stands. Where no such entry or place is
-- posted nothing was said there that could be taken.
use Rattle.std.proofs.Common.{sym}
use Rattle.printed_history.proofs.EventTold.{said_never, said_elsewhere, said_so}
use Rattle.printed_history.proofs.reading.SoFar.said.Goals as goal

pub returns-in_default : goal.returns-in_default
returns-in_default c = said_never c.args.self.now c.args.stamp c.args.place c.requires (sym c.in_default.ensures)

pub returns-in_default-get : goal.returns-in_default-get
returns-in_default-get c = said_elsewhere c.args.self.now c.args.stamp c.args.place c.in-Some.frames.now c.requires
    (sym c.in-Some.ensures) (sym c.in_default-get.ensures)

pub returns : goal.returns
returns c =
    said_so c.args.self.now c.args.stamp c.args.place c.in-Some.frames.now c.in-Some-get.frame.now c.in_ok-frame.frame
    c.requires (sym c.in-Some.ensures) (sym c.in-Some-get.ensures) c.in_ok-frame.ensures
