-- Seed and identifier are read where they are to stand, and the text is their line or not.
use Rattle.std.proofs.Common.{◌∙◌, refl, sym}
use Rattle.command_files.proofs.OwnKeys.{by_line, no_identifier, no_seed}
use Rattle.command_files.proofs.own_key.read_own_key.Goals as goal

pub returns-in-Ok-from_hex : goal.returns-in-Ok-from_hex
returns-in-Ok-from_hex c =
    by_line c.args.name.now c.args.text.now c.piece.result.now c.piece-in-Ok.result.now c.in-Ok.seed
    c.in-Ok-from_hex.identifier c.read_line.result c.piece.ensures (sym c.from_hex.ensures ∙ c.in-Ok.is)
    c.piece-in-Ok.ensures (sym c.from_hex-in-Ok.ensures ∙ c.in-Ok-from_hex.is) c.read_line.ensures

pub returns-in-Err-from_hex : goal.returns-in-Err-from_hex
returns-in-Err-from_hex c = (
  refl,
  no_identifier c.args.name.now c.args.text.now c.piece-in-Ok.result.now c.in-Err-from_hex.field-0
      c.piece-in-Ok.ensures (sym c.from_hex-in-Ok.ensures ∙ c.in-Err-from_hex.is),
)

pub returns-in-Err : goal.returns-in-Err
returns-in-Err c = (
  refl,
  no_seed c.args.name.now c.args.text.now c.piece.result.now c.in-Err.field-0 c.piece.ensures
      (sym c.from_hex.ensures ∙ c.in-Err.is),
)
