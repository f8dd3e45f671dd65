use Rattle.std.proofs.Common.{◌≡◌, []}
use Rattle.std.specs.Prelude.{replicate}
use Rattle.joined_histories.proofs.files.Kept.none.Given as goal

-- so many empty lists
abbrev pub invariant-loop-actor : goal.invariant-loop-actor
invariant-loop-actor l = l.lists.items ≡ replicate l._actor []
