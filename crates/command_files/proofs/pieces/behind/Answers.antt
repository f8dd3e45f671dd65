-- A text that begins so is cut behind it.
use Rattle.std.proofs.Common.{◌∙◌, sym}
use Rattle.command_files.proofs.Cuts.{begins_otherwise}
use Rattle.command_files.proofs.pieces.behind.Goals as goal

pub returns-else-eq : goal.returns-else-eq
returns-else-eq c rest same =
    begins_otherwise c.args.text.now c.args.beginning.now c.split_at.result.0.now rest c.split_at.ensures.front
    (sym c.eq.ensures ∙ c.if-eq.false) same
