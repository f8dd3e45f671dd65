use Rattle.part_lines.proofs.Words.{length_read}
use Rattle.part_lines.proofs.parts.fields.Goals as goal

pub returns-in-len3-clause-room : goal.returns-in-len3-clause-room
returns-in-len3-clause-room c =
    length_read _ _ _ c.both-in-len3.result
    (c.both-in-len3.ensures _ _ c.master.ensures (c.both.ensures _ _ c.size.ensures c.bytes.ensures))
