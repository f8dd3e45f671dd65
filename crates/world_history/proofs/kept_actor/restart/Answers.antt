-- Reading gives back the actor as it was, so that the restart's entry is added to it in any case. Where the
-- reading or the append fails, the keeper's calls tell that the actor is halted.
use Rattle.std.specs.Prelude.{None, Some}
use Rattle.scenario_file.specs.Reading.{contents}
use Rattle.history_rules.specs.Events.{Restart}
use Rattle.world_history.proofs.KeptGrows.{IsDone}
use Rattle.world_history.proofs.RestartReplays.{IsReread, is_reread, restart_can_come, ends_unread, ends_unkept, ends_well}
use Rattle.world_history.proofs.kept_actor.restart.Goals.{In-Some-said, In_default-said, In_ok-act, Start}
use Rattle.world_history.proofs.kept_actor.restart.Goals as goal

reread_asks : (c : Start) → IsReread (contents c.args.scenario.now) c.args.bench.now c.args.keeper.now
reread_asks c = is_reread (contents c.args.scenario.now) c.args.bench.now c.args.keeper.now c.requires.keeps
    c.requires.scenario c.requires.short

unread : (c : In_ok-act) → IsDone c.args.bench.now c.args.stamp Restart c.act.new.self c.reread.new.keeper None
unread c = ends_unread c.args.bench.now c.reread.new.bench c.act.new.self c.args.keeper.now c.reread.new.keeper
    c.args.stamp c.in_ok-read.read c.requires.keeps
    (restart_can_come c.args.bench.now c.args.stamp c.requires.fits c.requires.later c.requires.short)
    c.in_ok-read.ensures.same c.in_ok-act.ensures.entry c.in_ok-read.ensures.read c.in_default.is

unkept : (c : In_default-said) →
    IsDone c.args.bench.now c.args.stamp Restart c.act_and_keep.new.bench c.act_and_keep.new.keeper None
unkept c = ends_unkept c.args.bench.now c.reread.new.bench c.act_and_keep.new.bench c.args.keeper.now
    c.reread.new.keeper c.act_and_keep.new.keeper c.args.stamp
    c.in_ok-read.read c.in_ok-said.said c.in-Some.last c.requires.keeps
    (restart_can_come c.args.bench.now c.args.stamp c.requires.fits c.requires.later c.requires.short)
    c.in_ok-read.ensures.same c.in_ok-said.ensures.entry
    c.in_ok-read.ensures.read c.in-Some.is c.in_ok-said.ensures.kept c.in_default-said.is

kept : (c : In-Some-said) →
    IsDone c.args.bench.now c.args.stamp Restart c.act_and_keep.new.bench c.act_and_keep.new.keeper
    (Some c.in-Some.last)
kept c = ends_well c.args.bench.now c.reread.new.bench c.act_and_keep.new.bench c.args.keeper.now c.reread.new.keeper
    c.act_and_keep.new.keeper c.args.stamp
    c.in_ok-read.read c.in_ok-said.said c.in-Some.last c.in-Some-said.field-0 c.requires.keeps
    (restart_can_come c.args.bench.now c.args.stamp c.requires.fits c.requires.later c.requires.short)
    c.in_ok-read.ensures.same c.in_ok-said.ensures.entry
    c.in_ok-said.ensures.writable c.in_ok-read.ensures.read c.in-Some.is c.in_ok-said.ensures.kept c.in-Some-said.is
    c.in_ok-read.ensures.frames c.in_ok-read.ensures.stand

pub reread-requires-clause-valid : goal.reread-requires-clause-valid
reread-requires-clause-valid c = (reread_asks (goal.at.reread-requires-clause-valid c).Start).valid

pub reread-requires-clause-there : goal.reread-requires-clause-there
reread-requires-clause-there c = (reread_asks (goal.at.reread-requires-clause-there c).Start).there

pub reread-requires-clause-can : goal.reread-requires-clause-can
reread-requires-clause-can c = (reread_asks (goal.at.reread-requires-clause-can c).Start).can

pub reread-requires-clause-whole : goal.reread-requires-clause-whole
reread-requires-clause-whole c = (reread_asks (goal.at.reread-requires-clause-whole c).Start).whole

pub reread-requires-clause-kept : goal.reread-requires-clause-kept
reread-requires-clause-kept c = (reread_asks (goal.at.reread-requires-clause-kept c).Start).kept

pub returns-in_default-clause-keeps : goal.returns-in_default-clause-keeps
returns-in_default-clause-keeps c = (unread (goal.at.returns-in_default-clause-keeps c).In_ok-act).keeps

pub returns-in_default-clause-frames : goal.returns-in_default-clause-frames
returns-in_default-clause-frames c = (unread (goal.at.returns-in_default-clause-frames c).In_ok-act).frames

pub returns-in_default-said-clause-keeps : goal.returns-in_default-said-clause-keeps
returns-in_default-said-clause-keeps c = (unkept (goal.at.returns-in_default-said-clause-keeps c).In_default-said).keeps

pub returns-in_default-said-clause-frames : goal.returns-in_default-said-clause-frames
returns-in_default-said-clause-frames c =
    (unkept (goal.at.returns-in_default-said-clause-frames c).In_default-said).frames

pub returns-clause-keeps : goal.returns-clause-keeps
returns-clause-keeps c = (kept (goal.at.returns-clause-keeps c).In-Some-said).keeps

pub returns-clause-frames : goal.returns-clause-frames
returns-clause-frames c = (kept (goal.at.returns-clause-frames c).In-Some-said).frames
