-- A text that spells no frame gives none, and so does a frame that has a fault; the one refusal that is passed
-- on is want of memory.
use Rattle.std.proofs.Common.{subst}
use Rattle.entry_texts.specs.Reads.{ReadsSpelled}
use Rattle.entry_texts.proofs.EventReads.{none_stands, refusal_is_none}
use Rattle.entry_texts.proofs.read.read_standing.Goals as goal

pub returns-in_default : goal.returns-in_default
returns-in_default c =
    none_stands c.args.ring.now c.args.text.now
    (subst (λ r. ReadsSpelled c.args.text.now r) c.in_default.is c.in_ok-read.ensures)

pub returns-in-Err : goal.returns-in-Err
returns-in-Err c =
    refusal_is_none c.args.ring.now c.args.text.now c.in-Some.frame c.in-Err.refusal _
    c.refused.ensures c.in-Err.ensures.fault
    (subst (λ r. ReadsSpelled c.args.text.now r) c.in-Some.is c.in_ok-read.ensures)
