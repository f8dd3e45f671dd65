-- The numbers of all other events are looked at where they stand. A frame that is told by its bytes was spelled with its
-- entry, and a cry's bytes were looked at one by one.
use Rattle.std.proofs.Common.{sym, ◌∙◌, ap}
use Rattle.world_entries.specs.declared.entry.Event.TheVariants as kept
use Rattle.printed_run.proofs.LookedAt.{both_ok, cry_told, spelled_told}
use Rattle.printed_run.proofs.looking.look_at.Goals as goal

pub returns-else-is_said : goal.returns-else-is_said
returns-else-is_said c =
    both_ok c.look_at_frame.result
    (spelled_told c.args.is_said c.args.entry.now c.in-Took.stamp c.in-Took.place c.in-Took.frame c.in-Took.is
    c.if-is_said.false)
    c.look_at_frame.ensures.fits c.look_at_frame.ensures.bytes

pub returns-in-Cry : goal.returns-in-Cry
returns-in-Cry c =
    cry_told c.args.is_said c.args.entry.now.event c.as_slice.result.now
    (c.in-Cry.is ∙ ap kept.Cry (sym c.as_slice.ensures)) c.look_at_bytes.ensures
