-- Each line adds an entry that the laws allow, or it is the first that can't come after those before it, and
-- then its stamp is told. So what is made of all lines is legal.
use Rattle.std.proofs.Common.{◌∙◌, ap, arith}
use Rattle.scenario_file.specs.Reading.{contents}
use Rattle.printed_history.proofs.Lines.{first_line, line_read, line_refused, lines_whole, line_short, last_read}
use Rattle.printed_history.proofs.Lines.{read_legal, read_short, read_benches}
use Rattle.printed_history.proofs.histories.replay_of.Goals as goal

pub loop-line-init : goal.loop-line-init
loop-line-init c = record {
  whole = c.into_iter-line-iterator.ensures.into_iter_gives.0 ∙ c.into_vec-line-items.ensures;
  amid = first_line (contents c.args.scenario.now) c.args.lines c.into_iter-line-iterator.result.rest.items
      c.in_ok-so_far.so_far
      (c.into_iter-line-iterator.ensures.into_iter_gives.0 ∙ c.into_vec-line-items.ensures) c.in_ok-so_far.ensures;
}

pub add-requires-clause-at_hand : goal.add-requires-clause-at_hand
add-requires-clause-at_hand c = c.loop-line.invariant.amid.is_so_far

pub add-requires-clause-all : goal.add-requires-clause-all
add-requires-clause-all c = c.loop-line.invariant.amid.all

pub add-requires-clause-short : goal.add-requires-clause-short
add-requires-clause-short c =
    line_short (contents c.args.scenario.now) c.args.lines c.loop-line.yielded c.loop-line.line-iterator.rest.items
    c.next.new.self.rest.items c.in-Some.line _ c.loop-line.so_far
    c.loop-line.invariant.amid c.loop-line.invariant.whole c.in-Some.ensures.steps.0 c.requires.few

pub returns-then-not-comes-clause-history : goal.returns-then-not-comes-clause-history
returns-then-not-comes-clause-history c =
    line_refused (contents c.args.scenario.now) c.args.lines c.loop-line.yielded c.loop-line.line-iterator.rest.items
    c.next.new.self.rest.items c.in-Some.line c.in_ok-comes.comes
    c.len-stamp.result c.loop-line.so_far c.add.new.self c.loop-line.invariant.amid c.in-Some.ensures.steps.0
    c.if-not-comes.true c.len-stamp.ensures c.in_ok-comes.ensures

pub loop-line-preserved : goal.loop-line-preserved
loop-line-preserved c = record {
  whole = lines_whole c.args.lines c.loop-line.yielded c.loop-line.line-iterator.rest.items c.next.new.self.rest.items
      c.in-Some.line c.loop-line.invariant.whole c.in-Some.ensures.steps.0;
  amid = line_read (contents c.args.scenario.now) c.args.lines c.loop-line.yielded
      c.loop-line.line-iterator.rest.items c.next.new.self.rest.items c.in-Some.line c.in_ok-comes.comes
      c.loop-line.so_far c.add.new.self c.loop-line.invariant.amid c.in-Some.ensures.steps.0 c.if-not-comes.false
      c.in_ok-comes.ensures;
}

pub returns-clause-history : goal.returns-clause-history
returns-clause-history c =
    last_read (contents c.args.scenario.now) c.args.lines c.loop-line.yielded c.loop-line.line-iterator.rest.items
    c.loop-line.so_far c.into_replay.result.history c.loop-line.invariant.amid
    (omega (arith, c.in-None.ensures.steps, c.loop-line.line-iterator.rest.ok)) c.into_replay.ensures.history

pub returns-clause-legal : goal.returns-clause-legal
returns-clause-legal c =
    read_legal (contents c.args.scenario.now) c.args.lines c.loop-line.yielded c.loop-line.line-iterator.rest.items
    c.loop-line.so_far c.into_replay.result.history c.loop-line.invariant.amid
    c.into_replay.ensures.history

pub returns-clause-short : goal.returns-clause-short
returns-clause-short c =
    read_short (contents c.args.scenario.now) c.args.lines c.loop-line.yielded c.loop-line.line-iterator.rest.items _
    c.loop-line.so_far c.into_replay.result.history c.loop-line.invariant.amid
    c.loop-line.invariant.whole c.requires.few c.into_replay.ensures.history

pub returns-clause-benches : goal.returns-clause-benches
returns-clause-benches c =
    read_benches (contents c.args.scenario.now) c.args.lines c.loop-line.yielded c.loop-line.line-iterator.rest.items
    c.loop-line.so_far c.into_replay.result.history c.into_replay.result.benches.items
    c.loop-line.invariant.amid c.into_replay.ensures.history (ap (λ b. b.items) c.into_replay.ensures.benches)
