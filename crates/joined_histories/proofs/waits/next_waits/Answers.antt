-- The parts are those of the actor's next entry.
use Rattle.std.proofs.Common.{◌∙◌, ap, sym}
use Rattle.std.specs.List.{list_any}
use Rattle.scenario_file.specs.Reading.{contents}
use Rattle.world_entries.specs.Entries.{entry_of}
use Rattle.world_rules.specs.Scenarios.{setup_of}
use Rattle.joined_histories.specs.Order.{waits_for}
use Rattle.joined_histories.proofs.Waiting.{next_is}
use Rattle.joined_histories.proofs.waits.next_waits.Goals as goal

pub returns : goal.returns
returns c =
    c.one_waits.ensures
    ∙ ap (list_any (waits_for (setup_of (contents c.args.scenario.now)) c.args.kept.now.lists.items c.args.next.now))
    (c.as_slice.ensures.value ∙ c.in_ok-parts.ensures)
    ∙ sym (next_is (setup_of (contents c.args.scenario.now)) c.args.kept.now.lists.items c.args.next.now c.args.actor
    (entry_of c.next_entry.result.now) c.requires c.next_entry.ensures)
