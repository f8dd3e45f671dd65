-- Each command that asks no question takes the course of its own words, and each is answered by the function of
-- that course. Any other command is refused for its words.
use Rattle.std.proofs.Common.{◌≡◌, ℕ, List, [], Option, Result, map, sym, ap, subst}
use Rattle.std.specs.declared.vec.Vec.{Vec}
use Rattle.std.specs.declared.alloc.Global.{Global}
use Rattle.command_words.specs.Wanted.{Wanted, merge, wanted}
use Rattle.command_ends.specs.Calls.{TextCause}
use Rattle.command_ends.specs.declared.refusal.Refusal.{Refusal}
use Rattle.run_commands.specs.Readers.{Readers}
use Rattle.run_commands.specs.Told.{ToldStep}
use Rattle.run_commands.proofs.program.unposed_text.Goals as goal

-- the course of the words is that of what they name
of-words : (r : Readers) (words named : Wanted) (held : List ℕ → Option (List ℕ)) (first last : List ℕ → ℕ)
    (result : Result (Vec ℕ Global) Refusal) → words ≡ named
    → TextCause (ToldStep r named) held first last [] result
    → TextCause (ToldStep r words) held first last [] result
of-words r words named held first last result are cause =
    subst (λ w. TextCause (ToldStep r w) held first last [] result) (sym are) cause

pub returns-in-Play-clause-cause : goal.returns-in-Play-clause-cause
returns-in-Play-clause-cause g c =
    of-words g.R.Runs.readers _ _ _ _ _ c.play.result (ap wanted c.in-Play.is) c.play.ensures.cause

pub returns-in-Replay-clause-cause : goal.returns-in-Replay-clause-cause
returns-in-Replay-clause-cause g c =
    of-words g.R.Runs.readers _ _ _ _ _ c.replay.result (ap wanted c.in-Replay.is) c.replay.ensures.cause

pub returns-in-Keys-clause-cause : goal.returns-in-Keys-clause-cause
returns-in-Keys-clause-cause g c =
    of-words g.R.Runs.readers _ _ _ _ _ c.keys.result (ap wanted c.in-Keys.is) c.keys.ensures.cause

pub returns-in-Key-clause-cause : goal.returns-in-Key-clause-cause
returns-in-Key-clause-cause g c =
    of-words g.R.Runs.readers _ _ _ _ _ c.key.result (ap wanted c.in-Key.is) c.key.ensures.cause

pub returns-in-Verify-clause-cause : goal.returns-in-Verify-clause-cause
returns-in-Verify-clause-cause g c =
    of-words g.R.Runs.readers _ _ _ _ _ c.verify.result (ap wanted c.in-Verify.is) c.verify.ensures.cause

pub returns-in-Rebuild-clause-cause : goal.returns-in-Rebuild-clause-cause
returns-in-Rebuild-clause-cause g c =
    of-words g.R.Runs.readers _ _ _ _ _ c.rebuild.result (ap wanted c.in-Rebuild.is) c.rebuild.ensures.cause

pub returns-in-Run-clause-cause : goal.returns-in-Run-clause-cause
returns-in-Run-clause-cause g c =
    of-words g.R.Runs.readers _ _ _ _ _ c.run.result (ap wanted c.in-Run.is) c.run.ensures.cause

pub returns-in-Merge-clause-cause : goal.returns-in-Merge-clause-cause
returns-in-Merge-clause-cause g c =
    let r = g.R.Runs.readers in
    let scenario = c.in-Merge.scenario.now in
    of-words r _ _ _ _ _ c.merge.result (ap wanted c.in-Merge.is)
    (subst (λ keeps. TextCause (ToldStep r (merge scenario (map (λ keep. keep.now) keeps)))
    (g.F.Files.held c.args.files.now) (g.F.Files.faults c.args.files.now) (g.F.Files.faults c.merge.new.files) []
    c.merge.result) c.as_slice.ensures.value c.merge.ensures.cause)
