use Rattle.std.proofs.Common.{◌≡◌, take}
use Rattle.plain_lists.proofs.items.ItemsSame.is_same.Given as goal

abbrev pub invariant-loop-place : goal.invariant-loop-place
invariant-loop-place g l = take l.place l.mine-items ≡ take l.place l.other-inside.items.items
