-- A play begins with the definition's beginning and does line after line as it has it. So it is played to the
-- same making, or stops at the same line for the same reason.
use Rattle.std.proofs.Common.{◌≡◌, List, Ok, Err, refl}
use Rattle.std.proofs.lemmas.Result.{err_from_is_err_and}
use Rattle.scenario_file.specs.Reading.{contents}
use Rattle.run_scripts.specs.Making.{Given, beginning}
use Rattle.run_scripts.specs.Playing.{given_in, PlaysTo}
use Rattle.run_scripts.proofs.LinesPlayed.{plays_wants, stops_too, play_done, given_same, begins, begins_playing}
use Rattle.run_scripts.proofs.LinesPlayed.{lines_accepted, play_told, told_as}
use Rattle.run_scripts.proofs.plays.play.Goals as goal

pub play_lines-requires-clause-playing : goal.play_lines-requires-clause-playing
play_lines-requires-clause-playing c =
    begins_playing (given_in c.in_ok-world.world) _ c.in_ok-playing.playing c.in_ok-world.ensures.given
    (c.in_ok-playing.ensures c.sayings.result.now)

pub play_lines-requires-clause-accepted : goal.play_lines-requires-clause-accepted
play_lines-requires-clause-accepted c =
    lines_accepted (given_in c.in_ok-world.world) _ c.lines.result.now c.args.script.now c.in_ok-world.ensures.given
    c.lines.ensures c.requires.lines

pub returns-in_err-world : goal.returns-in_err-world
returns-in_err-world c =
    let p = err_from_is_err_and c.from_residual.result c.from_residual.ensures.1 in
    plays_wants _ c.from_residual.result p.0 _ p.1 p.2

pub returns-in_err-playing : goal.returns-in_err-playing
returns-in_err-playing c =
    let p = err_from_is_err_and c.from_residual-in_err-playing.result c.from_residual-in_err-playing.ensures.1 in
    plays_wants _ c.from_residual-in_err-playing.result p.0 _ p.1 p.2

pub returns-in_err-play_lines : goal.returns-in_err-play_lines
returns-in_err-play_lines c =
    let p = err_from_is_err_and c.from_residual-in_err-play_lines.result c.from_residual-in_err-play_lines.ensures.1 in
    stops_too (PlaysTo (given_in c.in_ok-world.world) c.play_lines.new.playing)
    _ c.from_residual-in_err-play_lines.result c.in_err-play_lines.field-0.0 p.0 _ p.1 p.2
    (told_as (PlaysTo (given_in c.in_ok-world.world) c.play_lines.new.playing) (Err c.in_err-play_lines.field-0.0) _ _
    (play_told (given_in c.in_ok-world.world)
    (record { scenario = contents c.args.scenario.now; sayings = c.args.words.now })
    c.lines.result.now c.args.script.now (given_same (given_in c.in_ok-world.world) (contents c.args.scenario.now)
    c.sayings.result.now c.args.words.now c.in_ok-world.ensures.given c.sayings.ensures) c.lines.ensures)
    (c.in_err-play_lines.ensures beginning
    (begins (given_in c.in_ok-world.world) _ c.in_ok-playing.playing c.in_ok-world.ensures.given
    (c.in_ok-playing.ensures c.sayings.result.now))))

pub returns : goal.returns
returns c =
    play_done (given_in c.in_ok-world.world)
    (record { scenario = contents c.args.scenario.now; sayings = c.args.words.now }) c.play_lines.new.playing _ _
    (given_same (given_in c.in_ok-world.world) (contents c.args.scenario.now) c.sayings.result.now
    c.args.words.now c.in_ok-world.ensures.given c.sayings.ensures) c.into_kept.ensures
    (told_as (PlaysTo (given_in c.in_ok-world.world) c.play_lines.new.playing) (Ok tt) _ _
    (play_told (given_in c.in_ok-world.world)
    (record { scenario = contents c.args.scenario.now; sayings = c.args.words.now })
    c.lines.result.now c.args.script.now (given_same (given_in c.in_ok-world.world) (contents c.args.scenario.now)
    c.sayings.result.now c.args.words.now c.in_ok-world.ensures.given c.sayings.ensures) c.lines.ensures)
    (c.in_ok-play_lines.ensures beginning
    (begins (given_in c.in_ok-world.world) _ c.in_ok-playing.playing c.in_ok-world.ensures.given
    (c.in_ok-playing.ensures c.sayings.result.now))))
