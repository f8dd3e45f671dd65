-- An entry is a stamp and an event behind it: where either can't be read no entry is spelled, and else it is
-- these two.
use Rattle.std.proofs.Common.{arith, refl, subst}
use Rattle.std.specs.Prelude.{None}
use Rattle.entry_texts.specs.Reads.{ReadsEvent, ReadsEntry}
use Rattle.entry_texts.proofs.EventReads.{no_entry_stamp, no_entry_event}
use Rattle.entry_texts.proofs.read.read_whole.Goals as goal

pub returns-in_default : goal.returns-in_default
returns-in_default c =
    subst (λ b. ReadsEntry c.args.ring.now b None) c.over-reader.ensures.rest
    (no_entry_stamp c.args.ring.now c.over-reader.result.rest (c.in_default.ensures.short.0 refl))

pub returns-in_default-read : goal.returns-in_default-read
returns-in_default-read c =
    subst (λ b. ReadsEntry c.args.ring.now b None) c.over-reader.ensures.rest
    (no_entry_event c.args.ring.now c.over-reader.result c.u64.new.self c.in-Ok.stamp
    (omega arith) c.in-Ok.ensures.taken
    (subst (λ r. ReadsEvent c.args.ring.now c.u64.new.self.rest r) c.in_default-read.is c.in_ok-read.ensures))
