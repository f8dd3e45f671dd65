-- The point's own list gets the change at its end and no other list changes, which is the definition.
use Rattle.std.proofs.Common.{◌≡◌, ◌++◌, ◌∷◌, []}
use Rattle.std.proofs.lemmas.Result.{on_ok_weaker}
use Rattle.trend_archive.proofs.RangeLaws.{with_change-set}
use Rattle.trend_archive.proofs.ranges.add.Goals as goal

pub returns-clause-ok : goal.returns-clause-ok
returns-clause-ok c = on_ok_weaker c.push.result
    (λ is.
    let at = c.index-lists-point.is in
    let pushed : c.push.new.self ≡ c.index-lists-point.result ++ c.args.change ∷ [] = cc in
    with_change-set c.args.lists.now c.args.point c.args.change c.index-lists-point.result c.push.new.self c.requires
    c.index-lists-point.is pushed)
    c.push.ensures.ok
