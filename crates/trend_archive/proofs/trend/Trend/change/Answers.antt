-- The change is noted first, and the point is there with the value within its bounds, so setting it can't fail.
-- Without memory to note it nothing has changed.
use Rattle.std.proofs.Common.{◌≡◌, ◌+◌, ◌∙◌, ap, arith, length}
use Rattle.std.proofs.lemmas.Int.{ints, to_z-of_z}
use Rattle.std.proofs.lemmas.List.{with_items_is}
use Rattle.trend_archive.proofs.RangeLaws.{with_change-length}
use Rattle.trend_archive.proofs.TrendLaws.{noted-some, same_lists}
use Rattle.trend_archive.proofs.trend.Trend.change.Goals as goal

pub returns-clause-ok : goal.returns-clause-ok
returns-clause-ok c =
    let many : length c.add.new.lists ≡ length c.self.inside.lists.items = ap length c.in_ok-add.ensures.ok
    ∙ (with_change-length _ _ _ ∙ ap length c.deref_mut.ensures.value) in
    let whole : length c.add.new.lists ≡ c.self.inside.lists.len = omega (arith, c.self.inside.lists.ok) in
    same_lists c.set.new.self.points c.set.new.self.values (c.self.inside.count + 1) _ _
    (with_items_is c.self.inside.lists c.add.new.lists whole)
    ∙ noted-some c.self.inside.points c.set.new.self c.self.inside.lists.items _ c.add.new.lists c.self.inside.count
    c.args.self.now c.args.point c.args.value _ _ c.set.result c.self.view_is c.requires.can
    c.set.ensures.ok c.set.ensures.no_point c.set.ensures.out_of_range c.in_ok-add.ensures.ok
    c.deref_mut.ensures.value (grind (arith, ints, to_z-of_z)) (grind (arith, ints, to_z-of_z))
