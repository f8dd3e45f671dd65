-- What was kept of a frame taken has its stamp, its place and the text of a frame that stands: so no reading
-- here can fail, and the frame needs no second test.
use Rattle.std.proofs.Common.{subst}
use Rattle.entry_texts.specs.Reads.{ReadsSpelled}
use Rattle.entry_texts.proofs.KeptReads.{some_taken, some_frame, frame_stands, took_spells}
use Rattle.entry_texts.proofs.read.read_kept_took.Goals as goal

pub unreachable-requires : goal.unreachable-requires
unreachable-requires c = some_taken c.args.reader.now.rest c.requires c.in_default.ensures

pub unreachable-requires-in_default-read : goal.unreachable-requires-in_default-read
unreachable-requires-in_default-read c =
    some_frame c.args.reader.now.rest c.requires c.in-Some.taken.stamp c.in-Some.taken.place
    c.in-Some.taken.text.now c.in-Some.ensures.0
    c.in-Some.ensures.1.0 c.in-Some.ensures.1.1.0 c.in-Some.ensures.1.1.1
    (subst (λ r. ReadsSpelled c.in-Some.taken.text.now r) c.in_default-read.is c.in_ok-read.ensures)

pub from_standing-requires : goal.from_standing-requires
from_standing-requires c =
    frame_stands c.args.reader.now.rest c.requires c.in-Some.taken.stamp c.in-Some.taken.place
    c.in-Some.taken.text.now c.in-Some-read.frame
    c.in-Some.ensures.0 c.in-Some.ensures.1.0 c.in-Some.ensures.1.1.0 c.in-Some.ensures.1.1.1
    (subst (λ r. ReadsSpelled c.in-Some.taken.text.now r) c.in-Some-read.is c.in_ok-read.ensures)
