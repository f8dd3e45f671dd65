use Rattle.part_lines.proofs.Wrong.{of_voters}
use Rattle.part_lines.proofs.rebuilding.rebuilt_text.Goals as goal

pub text_of-requires : goal.text_of-requires
text_of-requires c = of_voters _ c.in-Ok.made.wrong c.in-Ok.ensures.wrong
