use Rattle.station_rules.proofs.Answering.{answer_is_said, lines_are_said}
use Rattle.station_rules.proofs.laws.answer_is_said.Goals as goal

pub returns : goal.returns
returns c = record { one = answer_is_said; lines = lines_are_said }
