-- Line by line what is left tells the rest, up to the torn end or the first line that is refused.
use Rattle.std.proofs.Common.{◌^◌, sym, ◌∙◌, ap}
use Rattle.printed_history.specs.Reading.{contents_in}
use Rattle.script_grammar.specs.Names.{who_of}
use Rattle.kept_lines.proofs.LinesRead.{at_first, read_on, line_own, line_short, line_refused, all_read, station_read}
use Rattle.kept_lines.proofs.reading.reopen.Goals as goal

pub loop-line-init : goal.loop-line-init
loop-line-init c = at_first c.args.actor c.args.bytes.now c.args.begun c.requires.at_hand c.requires.none

pub add_line-requires-clause-own : goal.add_line-requires-clause-own
add_line-requires-clause-own c =
    line_own (contents_in c.args.begun) c.args.begun.only c.args.actor c.args.bytes.now c.loop-line.rest.now
    c.loop-line.so_far c.loop-line.invariant c.requires.own

pub add_line-requires-clause-short : goal.add_line-requires-clause-short
add_line-requires-clause-short c =
    line_short (contents_in c.args.begun) c.args.begun.only c.args.actor c.args.bytes.now c.loop-line.rest.now (2 ^ 32)
    c.loop-line.so_far c.loop-line.invariant c.requires.short

pub add_line-requires-clause-company : goal.add_line-requires-clause-company
add_line-requires-clause-company c = c.company-company.ensures ∙ ap who_of (sym c.loop-line.invariant.same)

pub returns-in-Err-clause-list : goal.returns-in-Err-clause-list
returns-in-Err-clause-list c =
    line_refused (contents_in c.args.begun) c.args.begun.only c.args.actor c.args.bytes.now c.loop-line.rest.now
    c.in-Some.line.now c.in-Some.after.now c.loop-line.so_far c.in-Err.refusal c.loop-line.invariant
    c.in-Some.ensures.pieces c.in-Err.ensures

pub loop-line-preserved : goal.loop-line-preserved
loop-line-preserved c =
    read_on (contents_in c.args.begun) c.args.begun.only c.args.actor c.args.bytes.now c.loop-line.rest.now
    c.in-Some.line.now c.in-Some.after.now c.loop-line.so_far c.add_line.new.so_far c.loop-line.invariant
    c.in-Some.ensures.pieces c.in-Some.ensures.shorter c.in-Ok.ensures.0 c.in-Ok.ensures.1.0 c.in-Ok.ensures.1.1

pub returns-clause-list : goal.returns-clause-list
returns-clause-list c =
    all_read (contents_in c.args.begun) c.args.begun.only c.args.actor c.args.bytes.now c.loop-line.rest.now
    c.loop-line.so_far c.loop-line.invariant c.in_default.ensures.pieces

pub returns-clause-at_hand : goal.returns-clause-at_hand
returns-clause-at_hand c = (
  c.loop-line.invariant.is_so_far,
  c.loop-line.invariant.same,
  c.loop-line.invariant.at_hand,
)

pub returns-clause-station : goal.returns-clause-station
returns-clause-station c =
    station_read (contents_in c.args.begun) c.args.begun.only c.args.actor c.args.bytes.now c.loop-line.rest.now
    c.loop-line.so_far c.loop-line.invariant

pub returns-clause-short : goal.returns-clause-short
returns-clause-short c =
    line_short (contents_in c.args.begun) c.args.begun.only c.args.actor c.args.bytes.now c.loop-line.rest.now (2 ^ 32)
    c.loop-line.so_far c.loop-line.invariant c.requires.short
