-- The bytes are known to be kept of an entry: so a stamp is there to be read, and behind it stands a kept
-- event.
use Rattle.std.proofs.Common.{sym, subst, refl, arith}
use Rattle.entry_texts.specs.KeptEntries.{IsKept}
use Rattle.entry_texts.proofs.KeptReads.{some_stamp, behind_stamp}
use Rattle.entry_texts.proofs.read.read_kept.Goals as goal

pub unreachable-requires : goal.unreachable-requires
unreachable-requires c =
    some_stamp c.over-reader.result.rest (subst IsKept (sym c.over-reader.ensures.rest) c.requires)
    (c.in_default.ensures.short.0 refl)

pub read_kept_event-requires : goal.read_kept_event-requires
read_kept_event-requires c =
    behind_stamp c.over-reader.result c.u64.new.self c.in-Ok.stamp (omega arith) c.in-Ok.ensures.taken
    (subst IsKept (sym c.over-reader.ensures.rest) c.requires)
