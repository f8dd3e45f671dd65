-- A correct master that is handed the frames it said, whether the event was silent or not, is the one of the list with
-- the entry.
use Rattle.std.proofs.Common.{subst}
use Rattle.world_entries.specs.Entries.{event_of}
use Rattle.world_history.specs.declared.role.Role.{Role}
use Rattle.world_history.specs.Roles.{IsReady}
use Rattle.world_history.proofs.MasterEntry.{three_on_ok, master_closed}
use Rattle.world_history.proofs.role.close.Goals as goal

pub returns-in-Master : goal.returns-in-Master
returns-in-Master c = three_on_ok c.hand.result c.hand.ensures.silent c.hand.ensures.loud c.hand.ensures.works
    (λ silent loud works k actor own e comes same signed ready.
    master_closed k actor own e (event_of c.args.event.now) c.in-Master.node c.hand.new.node
    c.args.frames.now comes same signed
    (subst (λ (r : Role). IsReady k actor own e r) c.in-Master.is ready) record {
      silent = silent;
      loud = loud;
      works = works;
    })
