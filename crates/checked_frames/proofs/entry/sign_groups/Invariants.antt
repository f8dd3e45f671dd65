use Rattle.std.proofs.Common.{◌≡◌, ◌+◌, map}
use Rattle.message_types.specs.Texts.{body_text}
use Rattle.checked_frames.proofs.EntryLaws.{AreSignedTo}
use Rattle.checked_frames.proofs.entry.sign_groups.Given as goal

abbrev pub invariant-loop-number : goal.invariant-loop-number
invariant-loop-number l = record {
  same_key : l.key.key ≡ l.fn.key.key;
  used : l.key.used ≡ l.fn.key.used + l.number;
  signed : AreSignedTo l.shared l.fn.key.key l.fn.key.used (map body_text l.bodies) l.number l.fields.items;
}
