-- The count so far is how many of the masters gone over have a report of the present view. A master is counted
-- once at most, so no sum overflows.
use Rattle.std.proofs.Common.{◌≡◌, ◌+◌, ap, ◌∙◌, length, arith}
use Rattle.std.specs.List.{filter_map}
use Rattle.std.specs.Option.{is_some}
use Rattle.quorum_sets.specs.Masters.{numbers_below}
use Rattle.view_change.specs.ViewState.{at_place}
use Rattle.view_change.proofs.Maps.{at_place-is}
use Rattle.view_change.proofs.Answering.{reports-start, count-more}
use Rattle.quorum_sets.proofs.Numbered.{filter_map_few, masters_few}
use Rattle.view_change.proofs.views.Views.count_reports.Goals as goal

pub loop-master-init : goal.loop-master-init
loop-master-init c = ap length (reports-start (at_place c.self.inside.reports.entries c.self.inside.view))

pub loop-master-preserved : goal.loop-master-preserved
loop-master-preserved c =
    count-more (at_place c.self.inside.reports.entries c.self.inside.view) c.loop-master.master c.loop-master.count
    c.from-count.result c.contains_key.result c.loop-master.invariant
    (c.contains_key.ensures ∙ ap is_some (at_place-is c.self.inside.reports c.self.inside.view c.loop-master.master))
    c.from-count.ensures

pub overflow_add-count : goal.overflow_add-count
overflow_add-count c =
    let more : c.loop-master.count + c.from-count.result ≡ length
    (filter_map (at_place c.self.inside.reports.entries c.self.inside.view)
    (numbers_below (c.loop-master.master + 1))) =
    count-more (at_place c.self.inside.reports.entries c.self.inside.view) c.loop-master.master c.loop-master.count
    c.from-count.result c.contains_key.result c.loop-master.invariant
    (c.contains_key.ensures ∙ ap is_some (at_place-is c.self.inside.reports c.self.inside.view c.loop-master.master))
    c.from-count.ensures in
    let few = filter_map_few (at_place c.self.inside.reports.entries c.self.inside.view) (c.loop-master.master + 1) in
    let all = masters_few c.self.inside.sizes in
    omega arith
