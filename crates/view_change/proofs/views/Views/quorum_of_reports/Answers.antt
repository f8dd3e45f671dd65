-- The list so far is the first q reports of the masters gone over, in their order. Once q are there none is
-- added any more.
use Rattle.std.proofs.Common.{◌++◌, take, ap, ◌∙◌}
use Rattle.std.specs.List.{filter_map}
use Rattle.std.specs.Option.{option_to_list}
use Rattle.quorum_sets.specs.Masters.{numbers_below}
use Rattle.view_change.specs.ViewState.{at_place}
use Rattle.view_change.proofs.Maps.{at_place-is}
use Rattle.view_change.proofs.Answering.{taken-start, reports-more}
use Rattle.view_change.proofs.views.Views.quorum_of_reports.Goals as goal

pub loop-master-init : goal.loop-master-init
loop-master-init c = c.new-reports.ensures ∙ taken-start (at_place c.self.inside.reports.entries c.self.inside.view)
    c.self.inside.sizes.q

pub loop-master-preserved : goal.loop-master-preserved
loop-master-preserved c =
    c.in_ok-push_below.ensures (filter_map (at_place c.self.inside.reports.entries c.self.inside.view)
    (numbers_below c.loop-master.master)) c.loop-master.invariant
    ∙ ap (take c.self.inside.sizes.q)
    (ap (λ o. filter_map (at_place c.self.inside.reports.entries c.self.inside.view)
    (numbers_below c.loop-master.master) ++ option_to_list o)
    (c.get.ensures.value ∙ at_place-is c.self.inside.reports c.self.inside.view c.loop-master.master)
    ∙ reports-more (at_place c.self.inside.reports.entries c.self.inside.view) c.loop-master.master)
