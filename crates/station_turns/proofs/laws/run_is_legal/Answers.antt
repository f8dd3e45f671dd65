use Rattle.station_turns.proofs.DrawnOnce.{drawn_once, run_is_legal}
use Rattle.station_turns.proofs.laws.run_is_legal.Goals as goal

pub returns : goal.returns
returns c = record { once = drawn_once; legal = run_is_legal }
