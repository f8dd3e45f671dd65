-- The digits behind the name read as a public key, whose line the text begins with or not, or they read as none.
use Rattle.std.proofs.Common.{◌∙◌, sym}
use Rattle.command_files.proofs.Rings.{cut_by, unread}
use Rattle.command_files.proofs.ring.cut_line.Goals as goal

pub returns-in-Ok : goal.returns-in-Ok
returns-in-Ok c =
    cut_by c.args.name.now c.args.text.now c.piece.result.now c.in-Ok.public _ _ c.cut_public.result c.piece.ensures
    (sym c.from_hex.ensures ∙ c.in-Ok.is) c.cut_public.ensures

pub returns-in-Err : goal.returns-in-Err
returns-in-Err c =
    unread c.args.name.now c.args.text.now c.piece.result.now c.in-Err.field-0 c.piece.ensures
    (sym c.from_hex.ensures ∙ c.in-Err.is)
