-- A fresh screen took no votes, so nothing is done and nothing is shown.
use Rattle.std.proofs.Common.{refl, sym, ap, ◌∙◌}
use Rattle.operator_screen.specs.Board.{notices}
use Rattle.vouched_orders.proofs.VouchingLaws.{done-none}
use Rattle.operator_screen.proofs.screen.Screen.make.Goals as goal

pub returns-clause-made : goal.returns-clause-made
returns-clause-made c = record {
  same = refl;
  tally = c.new.ensures;
  board = c.new-2.ensures.items ∙ sym (ap notices (done-none c.args.sizes.n c.args.sizes.f));
}
