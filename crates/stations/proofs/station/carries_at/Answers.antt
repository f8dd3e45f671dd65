-- The item at the place is the entry that stands there.
use Rattle.std.proofs.Common.{sym, ◌∙◌, ap}
use Rattle.client_roles.specs.Roles.{carries_well}
use Rattle.history_rules.specs.Events.{Entry}
use Rattle.world_entries.specs.Entries.{event_of}
use Rattle.stations.proofs.Shown.{entry_is}
use Rattle.stations.proofs.station.carries_at.Goals as goal

pub returns : goal.returns
returns c = λ before after e are here.
    ap (λ (x : Entry). carries_well x.event)
    (sym (entry_is c.args.entries.now before after e c.args.place c.index-entries-place.result are here c.requires
    c.index-entries-place.is))
    ∙ ap (λ k. carries_well (event_of k.event)) c.index-entries-place.is ∙ c.event_carries_well.ensures
