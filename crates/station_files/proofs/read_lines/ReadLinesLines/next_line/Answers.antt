-- The next byte of the input ends the line, or is one more of it, or there is none.
use Rattle.std.proofs.Common.{◌∷◌, [], ◌++◌, ◌∙◌, arith}
use Rattle.std.proofs.KnownBytes.{Consumes-trans}
use Rattle.station_files.specs.Input.{waiting_of}
use Rattle.station_files.proofs.LinesRead.{came_in_default, came_with_feed, byte_given}
use Rattle.station_files.proofs.read_lines.ReadLinesLines.next_line.Goals as goal

pub returns-in_err-byte-clause-never_falls : goal.returns-in_err-byte-clause-never_falls
returns-in_err-byte-clause-never_falls g c =
    let same = c.loop-made.invariant.faults in
    let rises = c.next_byte.ensures.never_falls in
    omega arith

pub returns-in_default-clause-came : goal.returns-in_default-clause-came
returns-in_default-clause-came g c =
    let before = c.loop-made.invariant in
    came_in_default c.args.room (waiting_of c.args.self.now) (waiting_of c.loop-made.self)
    (waiting_of c.next_byte.new.self) before.seen c.loop-made.begun.line.items c.loop-made.begun.is_begun
    c.loop-made.begun.is_long c.in_ok-byte.field-0 c.at_end.result before.read before.taken c.in_ok-byte.ensures.byte
    c.in_default.is c.at_end.ensures

pub returns-then-byte-eq-LINE_FEED-clause-came : goal.returns-then-byte-eq-LINE_FEED-clause-came
returns-then-byte-eq-LINE_FEED-clause-came g c =
    let before = c.loop-made.invariant in
    came_with_feed c.args.room (waiting_of c.args.self.now) (waiting_of c.loop-made.self)
    (waiting_of c.next_byte.new.self) before.seen c.loop-made.begun.line c.loop-made.begun.is_begun
    c.loop-made.begun.is_long c.in_ok-byte.field-0 c.in-Some.byte c.at_feed.result before.read before.taken
    c.in_ok-byte.ensures.byte c.in-Some.is c.if-byte-eq-LINE_FEED.true c.at_feed.ensures

pub loop-made-preserved : goal.loop-made-preserved
loop-made-preserved g c =
    let before = c.loop-made.invariant in
    record {
      faults = c.in_ok-byte.ensures.counted ∙ before.faults;
      seen = before.seen ++ c.in-Some.byte ∷ [];
      read = c.in_ok-add.ensures.read before.seen before.read c.if-byte-eq-LINE_FEED.false;
      taken =
          Consumes-trans (waiting_of c.args.self.now) (waiting_of c.loop-made.self) (waiting_of c.next_byte.new.self)
          before.seen (c.in-Some.byte ∷ []) before.taken
          (byte_given (waiting_of c.loop-made.self) (waiting_of c.next_byte.new.self) c.in_ok-byte.field-0
          c.in-Some.byte c.in_ok-byte.ensures.byte c.in-Some.is);
    }
