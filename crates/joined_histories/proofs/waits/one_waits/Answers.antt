-- No part before the one looked at waits: so one that does answers yes, and where the search ends there is none.
use Rattle.std.proofs.Common.{◌∙◌, ap, sym}
use Rattle.std.proofs.lemmas.List.{take_all}
use Rattle.std.specs.List.{list_any}
use Rattle.scenario_file.specs.Reading.{contents}
use Rattle.world_rules.specs.Scenarios.{setup_of}
use Rattle.history_audit.proofs.Whole.{masters_of}
use Rattle.joined_histories.specs.Order.{waits_for}
use Rattle.joined_histories.proofs.Waiting.{any_here, none_on}
use Rattle.joined_histories.proofs.waits.one_waits.Goals as goal

pub returns-then-waits_for : goal.returns-then-waits_for
returns-then-waits_for c =
    let w = setup_of (contents c.args.scenario.now) in
    sym (any_here (waits_for w c.args.kept.now.lists.items c.args.next.now) c.args.parts.now c.loop-part.part-index
    c.part-item.result c.loop-part-test.true c.part-item.is
    (sym (c.if-waits_for.ensures w
    (masters_of (contents c.args.scenario.now) c.args.scenario.now.sizes.n c.args.scenario.now.sizes.all))))

pub loop-part-preserved : goal.loop-part-preserved
loop-part-preserved c =
    let w = setup_of (contents c.args.scenario.now) in
    none_on (waits_for w c.args.kept.now.lists.items c.args.next.now) c.args.parts.now c.loop-part.part-index
    c.part-item.result c.loop-part-test.true c.part-item.is
    (sym (c.if-waits_for.ensures w
    (masters_of (contents c.args.scenario.now) c.args.scenario.now.sizes.n c.args.scenario.now.sizes.all)))
    c.loop-part.invariant

pub returns : goal.returns
returns c =
    sym c.loop-part.invariant
    ∙ ap (list_any (waits_for (setup_of (contents c.args.scenario.now)) c.args.kept.now.lists.items c.args.next.now))
    (take_all c.loop-part.part-index c.args.parts.now c.loop-part-test.false)
