use Rattle.part_lines.proofs.Own.{enough_lines_rebuild}
use Rattle.part_lines.proofs.laws.enough_lines_rebuild.Goals as goal

pub returns : goal.returns
returns c = enough_lines_rebuild
