use Rattle.run_scripts.proofs.plays.play_line.Goals as goal

pub returns-in-Ok : goal.returns-in-Ok
returns-in-Ok c = λ m is. c.in-Ok.ensures m is

pub returns-in-Err : goal.returns-in-Err
returns-in-Err c = λ m is. (c.in-Err.stop, c.at.ensures, c.in-Err.ensures m is)
