-- For an event that is no restart the entry added is the one appended: so the keeper holds the bench's list
-- again, or failed and the actor is halted there.
use Rattle.std.proofs.Common.{IfOk}
use Rattle.world_entries.specs.Entries.{event_of}
use Rattle.world_history.proofs.KeptGrows.{IsDone, correct_count, went_on_result}
use Rattle.world_history.proofs.Answering.{if_ok}
use Rattle.world_history.proofs.kept_actor.go_on.Goals.{After-act_and_keep}
use Rattle.world_history.proofs.kept_actor.go_on.Goals as goal

pub act_and_keep-requires-clause-count : goal.act_and_keep-requires-clause-count
act_and_keep-requires-clause-count c =
    correct_count c.args.bench.now.world c.args.bench.now.actor (event_of c.args.event)
    c.requires.keeps.correct c.requires.fits

done : (c : After-act_and_keep) → IfOk c.act_and_keep.result
    (IsDone c.args.bench.now c.args.stamp (event_of c.args.event) c.act_and_keep.new.bench c.act_and_keep.new.keeper)
done c =
    went_on_result c.args.bench.now c.act_and_keep.new.bench c.args.keeper.now c.act_and_keep.new.keeper c.args.stamp
    (event_of c.args.event) c.act_and_keep.result c.requires.keeps c.requires.other
    (record {
      fits = c.requires.fits;
      later = c.requires.later;
      taken = c.requires.taken;
      short = c.requires.short;
    })
    c.act_and_keep.ensures.entry c.act_and_keep.ensures.writable c.act_and_keep.ensures.kept
    c.act_and_keep.ensures.frames c.act_and_keep.ensures.stand

pub returns-clause-keeps : goal.returns-clause-keeps
returns-clause-keeps c = if_ok c.act_and_keep.result (done (goal.at.returns-clause-keeps c).After-act_and_keep)
    (λ said d. d.keeps)

pub returns-clause-frames : goal.returns-clause-frames
returns-clause-frames c = if_ok c.act_and_keep.result (done (goal.at.returns-clause-frames c).After-act_and_keep)
    (λ said d. d.frames)

pub returns-clause-stand : goal.returns-clause-stand
returns-clause-stand c = if_ok c.act_and_keep.result (done (goal.at.returns-clause-stand c).After-act_and_keep)
    (λ said d. d.stand)
