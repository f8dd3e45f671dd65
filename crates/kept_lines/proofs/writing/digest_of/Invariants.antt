use Rattle.std.proofs.Common.{take}
use Rattle.std.specs.List.{flat_map}
use Rattle.sha2.specs.Hashers.{Holds256}
use Rattle.message_types.specs.Texts.{frame_text}
use Rattle.kept_lines.proofs.writing.digest_of.Given as goal

-- the frames so far are hashed
abbrev pub invariant-loop-frame : goal.invariant-loop-frame
invariant-loop-frame l = Holds256 l.hasher (flat_map frame_text (take l.frame-index l.frames))
