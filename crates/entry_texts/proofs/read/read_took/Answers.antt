-- A taking is spelled by a stamp, a place and the text of a frame that stands: where one of these is missing no
-- event is spelled, and else it is this one.
use Rattle.std.proofs.Common.{subst}
use Rattle.entry_texts.specs.Reads.{ReadsFrame}
use Rattle.entry_texts.proofs.EventReads.{no_taken, no_frame, took_is}
use Rattle.entry_texts.proofs.read.read_took.Goals as goal

pub returns-in_default : goal.returns-in_default
returns-in_default c = no_taken _ _ c.in_default.ensures

pub returns-in_default-read : goal.returns-in_default-read
returns-in_default-read c =
    no_frame c.args.ring.now c.args.reader.now.rest c.in-Some.taken.stamp c.in-Some.taken.place
    c.in-Some.taken.text.now c.in-Some.ensures.0
    c.in-Some.ensures.1.0 c.in-Some.ensures.1.1.0 c.in-Some.ensures.1.1.1
    (subst (λ r. ReadsFrame c.args.ring.now c.in-Some.taken.text.now r) c.in_default-read.is c.in_ok-read.ensures)

pub returns : goal.returns
returns c =
    took_is c.args.ring.now c.args.reader.now.rest c.in-Some.taken.stamp c.in-Some.taken.place
    c.in-Some.taken.text.now c.in-Some-read.frame
    c.in-Some.ensures.0 c.in-Some.ensures.1.0 c.in-Some.ensures.1.1.0
    (subst (λ r. ReadsFrame c.args.ring.now c.in-Some.taken.text.now r) c.in-Some-read.is c.in_ok-read.ensures)
