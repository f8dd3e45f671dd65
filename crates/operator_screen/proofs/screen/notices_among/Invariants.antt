use Rattle.std.proofs.Common.{◌≡◌, take}
use Rattle.operator_screen.specs.Board.{notices}
use Rattle.operator_screen.proofs.screen.notices_among.Given as goal

abbrev pub invariant-loop-order : goal.invariant-loop-order
invariant-loop-order l = l.found.items ≡ notices (take l.order-index l.orders)
