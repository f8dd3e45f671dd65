-- A line feed at the end of what is left makes all of it whole lines, another byte is none of them.
use Rattle.std.proofs.Common.{sym, ◌∙◌, arith}
use Rattle.station_files.proofs.Feeds.{feed_ends, other_ends}
use Rattle.station_files.proofs.whole_lines.whole_length.Goals as goal

pub returns-then-text-whole-eq-LINE_FEED-clause-lines : goal.returns-then-text-whole-eq-LINE_FEED-clause-lines
returns-then-text-whole-eq-LINE_FEED-clause-lines c =
    sym (feed_ends c.args.text.now c.loop-whole.whole c.loop-whole-test.true c.loop-whole.invariant.within
    c.if-text-whole-eq-LINE_FEED.true) ∙ c.loop-whole.invariant.same

pub returns-then-text-whole-eq-LINE_FEED-clause-whole : goal.returns-then-text-whole-eq-LINE_FEED-clause-whole
returns-then-text-whole-eq-LINE_FEED-clause-whole c =
    feed_ends c.args.text.now c.loop-whole.whole c.loop-whole-test.true c.loop-whole.invariant.within
    c.if-text-whole-eq-LINE_FEED.true

pub loop-whole-preserved : goal.loop-whole-preserved
loop-whole-preserved c = record {
  within = let within = c.loop-whole.invariant.within in omega arith;
  same =
      sym (other_ends c.args.text.now c.loop-whole.whole c.loop-whole-test.true c.loop-whole.invariant.within
      c.if-text-whole-eq-LINE_FEED.false) ∙ c.loop-whole.invariant.same;
}
