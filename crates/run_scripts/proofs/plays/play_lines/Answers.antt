-- The lines so far and those left are together all lines. A line that is played leaves the rest to the making
-- after it, and one that stops ends both at that line.
use Rattle.std.proofs.Common.{arith}
use Rattle.std.proofs.lemmas.List.{get_or_default}
use Rattle.std.proofs.lemmas.Result.{err_from_is_err_and}
use Rattle.scenario_file.specs.Reading.{contents}
use Rattle.run_scripts.specs.Playing.{given_in}
use Rattle.run_scripts.proofs.LinesPlayed.{sets_out, line_accepted, plays_line, stops_at_line, plays_out}
use Rattle.run_scripts.proofs.plays.play_lines.Goals as goal

pub loop-line-init : goal.loop-line-init
loop-line-init c = sets_out (given_in c.args.world.now) c.args.lines.now c.args.playing.now c.requires.playing

pub play_line-requires-clause-playing : goal.play_line-requires-clause-playing
play_line-requires-clause-playing c = c.loop-line.invariant.playing

pub play_line-requires-clause-accepted : goal.play_line-requires-clause-accepted
play_line-requires-clause-accepted c =
    line_accepted (contents c.args.world.now.scenario.now) c.args.lines.now c.loop-line.line-index _
    c.requires.accepted c.loop-line-test.true
    (get_or_default c.args.lines.now c.loop-line.line-index _ _ c.loop-line-test.true)

pub returns-in_err-play_line : goal.returns-in_err-play_line
returns-in_err-play_line c = λ m is.
    let p = err_from_is_err_and c.from_residual.result c.from_residual.ensures.1 in
    stops_at_line _ c.play_line.new.playing c.args.lines.now c.loop-line.line-index _ c.from_residual.result
    c.in_err-play_line.field-0.0 p.0 p.1 p.2 c.loop-line-test.true
    (get_or_default c.args.lines.now c.loop-line.line-index _ _ c.loop-line-test.true) c.loop-line.invariant
    c.in_err-play_line.ensures m is

pub loop-line-preserved : goal.loop-line-preserved
loop-line-preserved c =
    plays_line c.args.lines.now c.loop-line.line-index _ c.loop-line-test.true
    (get_or_default c.args.lines.now c.loop-line.line-index _ _ c.loop-line-test.true) c.loop-line.invariant
    c.in_ok-play_line.ensures

pub returns : goal.returns
returns c = λ m is. plays_out c.args.lines.now c.loop-line.line-index (omega arith) c.loop-line.invariant m is
