use Rattle.std.proofs.Common.{◌≡◌, ◌++◌, length, take}
use Rattle.std.specs.List.{flat_map}
use Rattle.wire_parts.specs.Fields.{u16_bytes}
use Rattle.message_types.specs.Texts.{signed_text}
use Rattle.message_forms.proofs.written.put_frames.Given as goal

abbrev pub invariant-loop-frame : goal.invariant-loop-frame
invariant-loop-frame g l =
    l.out.items ≡ l.fn.out.items
    ++ ((u16_bytes (length l.frames) ++ flat_map (signed_text g.B.Written.text) (take l.frame-index l.frames)))
