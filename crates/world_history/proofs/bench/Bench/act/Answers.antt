-- The bench counts as spent while its seat adds the entry, so want of memory leaves it so with the list as it
-- was. Else the seat's new entry and frames are the bench's.
use Rattle.std.proofs.Common.{◌≡◌, true, ◌∙◌, subst}
use Rattle.std.proofs.lemmas.Bool.{true≢false}
use Rattle.std.specs.List.{list_all}
use Rattle.history_rules.specs.Setup.{stands}
use Rattle.world_entries.specs.Entries.{event_of}
use Rattle.world_history.specs.State.{BenchState, setup_in}
use Rattle.world_history.proofs.SeatEntry.{entry_added, frames_seen}
use Rattle.world_history.proofs.bench.Bench.act.Goals as goal

pub add-requires-clause-seated : goal.add-requires-clause-seated
add-requires-clause-seated c = c.self.invariant c.if-self.false

pub returns-clause-entry : goal.returns-clause-entry
returns-clause-entry c =
    entry_added c.self.inside.seat c.add.new.self c.self.inside.is_spent c.args.self.now c.args.stamp
    (event_of c.args.event)
    c.self.view_is c.if-self.false c.add.ensures.same c.in_ok-frames.ensures.list

pub returns-clause-frames : goal.returns-clause-frames
returns-clause-frames c =
    c.in_ok-frames.ensures.frames
    ∙ frames_seen c.self.inside.seat c.self.inside.is_spent c.args.self.now c.args.stamp
    (event_of c.args.event) c.self.view_is

pub returns-clause-stand : goal.returns-clause-stand
returns-clause-stand c =
    subst (λ (b : BenchState). list_all (stands (setup_in b)) c.in_ok-frames.frames.items ≡ true)
    c.self.view_is c.in_ok-frames.ensures.stand

pub returns-clause-refused : goal.returns-clause-refused
returns-clause-refused c = tt

pub invariant_of-self : goal.invariant_of-self
invariant_of-self c spent = absurd (true≢false spent)
